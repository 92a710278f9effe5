use Rattle.std.proofs.Common.{◌-◌, is_ok, subst, vec_len}
use Rattle.kept_answers.specs.Kept.{AreKept}
use Rattle.kept_answers.proofs.Keeping.{kept_resized}
use Rattle.kept_answers.proofs.answers.Answers.grow.Goals as goal

pub returns : goal.returns
returns c =
    let entries = c.self.inside.entries in
    let grown = c.resize.new.self.items in
    subst (λ l. AreKept l grown) c.self.view_is
    (kept_resized (is_ok c.resize.result) c.min-more.result (c.min-more.result - vec_len entries) entries.items
    c.resize.ensures.items)
