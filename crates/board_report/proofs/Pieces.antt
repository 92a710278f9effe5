-- Pieces that are put one after another, where no write stops them.
use Rattle.std.specs.Prelude.{◌≡◌, ℕ, ◌+◌, ◌<◌, Option, List, [], ◌∷◌, ◌++◌, length, get_or, take}
use Rattle.std.specs.List.{flat_map}
use Rattle.std.proofs.Common.{sym, ap, ◌∙◌, subst, append-nil}
use Rattle.std.proofs.{lemmas.List.take_more, lemmas.List.Concat.flat_map-append}
use Rattle.edge_io.specs.Out.{Output, Puts}
use Rattle.edge_io.proofs.OutLemmas.{Puts-trans}

-- the next piece is put
pub one_more_put : {K X : Type 0} {taken : K → Option (List ℕ)} {faults : K → ℕ} {old mid new : Output K}
    (f : X → List ℕ) (pieces : List X) (place : ℕ) {piece : X} → place < length pieces
    → piece ≡ get_or pieces place piece
    → Puts taken faults old mid (flat_map f (take place pieces)) → Puts taken faults mid new (f piece)
    → Puts taken faults old new (flat_map f (take (place + 1) pieces))
one_more_put {taken} {faults} {old} {new} f pieces place {piece} short at before put =
    let grown : flat_map f (take place pieces) ++ f piece ≡ flat_map f (take (place + 1) pieces) =
    ap (λ l. flat_map f (take place pieces) ++ l) (sym (append-nil (f piece)))
    ∙ sym (flat_map-append f (take place pieces) (piece ∷ []))
    ∙ ap (λ p. flat_map f (take place pieces ++ p ∷ [])) at
    ∙ ap (flat_map f) (sym (take_more pieces place piece short)) in
    subst (Puts taken faults old new) grown (Puts-trans before put)
