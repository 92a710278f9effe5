use Rattle.std.proofs.Common.{◌≡◌, ◌+◌, ◌<◌, List, ℕ, [], length, get_or, sym, subst, arith}
use Rattle.std.specs.Borrow.{Bor}
use Rattle.fault_words.specs.Names.{number_in}
use Rattle.std.proofs.lemmas.List.{length-map}
use Rattle.name_index.proofs.Names.{behind, number_there}
use Rattle.name_index.proofs.name_index.NameIndex.number_near.Goals as goal

pub overflow_add-result : goal.overflow_add-result
overflow_add-result c =
    let keys = c.self.inside.names.keys in
    let short : c.args.place < length (behind keys) =
    subst (λ (names : List (List ℕ)). c.args.place < length names) (sym c.self.view_is)
    (c.is_at.ensures.within c.if-is_at.true) in
    let few : length (behind keys) ≡ length keys = length-map keys (λ (key : Bor (List ℕ)). key.now) in
    let all : c.len-length.result ≡ length keys = c.len-length.ensures.len in
    omega (arith, short, few, all, c.len-length.ensures.small)

pub returns-then-is_at : goal.returns-then-is_at
returns-then-is_at c =
    subst (λ (names : List (List ℕ)). c.args.place < length names → get_or names c.args.place [] ≡ c.args.name.now
    → c.args.place + 1 ≡ number_in names c.args.name.now) c.self.view_is
    (λ short is. sym (number_there c.self.inside.names.keys c.args.place c.len-length.ensures.unique
    short is)) (c.is_at.ensures.within c.if-is_at.true) (c.is_at.ensures.there c.if-is_at.true)
