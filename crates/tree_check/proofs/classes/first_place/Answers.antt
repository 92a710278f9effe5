use Rattle.std.proofs.Common.{ap, ◌∙◌}
use Rattle.tree_check.specs.Classes.{first}
use Rattle.tree_check.proofs.Trying.{told_at_gates}
use Rattle.tree_check.proofs.classes.first_place.Goals as goal

pub returns-in-Votes : goal.returns-in-Votes
returns-in-Votes c =
    c.first_at_gates.ensures ∙ ap first (told_at_gates c.requires c.in-Votes.is)
