-- What a reply tells, and the first tight cut set by number and by place.
use Rattle.std.proofs.Common.{◌≡◌, ℕ, suc, ◌<◌, ◌^◌, List, [], ◌∷◌, ◌++◌, slice_get, Option, Some, None, refl, sym}
use Rattle.std.proofs.Common.{◌∙◌, ap, arith}
use Rattle.std.specs.{List.position, Option.option_map}
use Rattle.std.proofs.lemmas.List.Quantifiers.{position-Some}
use Rattle.residual_ledger.specs.{Ledger.LedgerView, Tight.is_tight, Tight.tight}
use Rattle.residual_ledger.proofs.{TightLaws.tight-first, LedgerFacts.few_cuts}
use Rattle.margin_policy.specs.declared.request.Reply.{Reply}
use Rattle.margin_policy.specs.declared.request.Reply.TheVariants.{Granted, Denied}
use Rattle.margin_policy.specs.{Decide.granted_unless, Held.Held, Held.units_out, Standing.KeepsStanding}

-- the reply by the place of the first tight cut set, from 0
abbrev pub granted_at : Option ℕ → Reply
granted_at None = Granted
granted_at (Some place) = Denied (suc place)

by_first : (numbers : List ℕ) (place : Option ℕ) → slice_get numbers 0 ≡ option_map suc place
    → granted_at place ≡ granted_unless numbers
by_first [] None h = refl
by_first [] (Some place) h = absurd cc
by_first (number ∷ numbers) None h = absurd cc
by_first (number ∷ numbers) (Some place) h = let same : number ≡ suc place = cc in ap Denied (sym same)

-- what the ledger finds first decides, told by its place or by its number
pub granted_at-first : (asked : List ℕ) (most : ℕ) {ledger : LedgerView} {margin : ℕ} {held now : Held}
    {cuts : List (List ℕ)} {first : Option ℕ}
    → KeepsStanding ledger margin held → ledger.cuts ≡ cuts → held ≡ now
    → first ≡ position (is_tight (asked ++ ledger.out) most) ledger.cuts
    → granted_at first ≡ granted_unless (tight (asked ++ units_out now) most cuts)
granted_at-first asked most {ledger} was same_cuts same_held is =
    rw (← same_held, ← same_cuts, ← was.same, is) (by_first (tight (asked ++ ledger.out) most ledger.cuts)
    (position (is_tight (asked ++ ledger.out) most) ledger.cuts) (tight-first (asked ++ ledger.out) most ledger.cuts))

-- a place of a cut set is no large number
pub few_places : (asked : List ℕ) (most : ℕ) {ledger : LedgerView} {margin : ℕ} {held : Held} {first : Option ℕ}
    {place : ℕ}
    → KeepsStanding ledger margin held → first ≡ position (is_tight (asked ++ ledger.out) most) ledger.cuts
    → first ≡ Some place → place < 2 ^ 31
few_places asked most {ledger} {place} was is some =
    let found = position-Some (is_tight (asked ++ ledger.out) most) ledger.cuts place [] (sym is ∙ some) in
    omega (arith, found.0, few_cuts ledger.cuts, was.whole.ordered.within)
