use Rattle.std.proofs.Common.{sym, ap, ◌∙◌, List, ℕ, get_or, []}
use Rattle.std.specs.Option.{option_copied}
use lib.Pointwise.{bytes_decides}
use Rattle.name_index.proofs.Names.{name_there}
use Rattle.name_index.proofs.name_index.NameIndex.is_at.Goals as goal

pub returns-in-Some-clause-there : goal.returns-in-Some-clause-there
returns-in-Some-clause-there c same =
    ap (λ (names : List (List ℕ)). get_or names c.args.place []) (sym c.self.view_is)
    ∙ name_there c.self.inside.names.keys c.args.place c.in-Some.there.now
    (sym c.get_index.ensures.key ∙ ap option_copied c.in-Some.is)
    ∙ (bytes_decides c.in-Some.there.now.now c.as_slice.result.now).0 (sym c.eq.ensures ∙ same)
    ∙ c.as_slice.ensures.bytes
