-- A memory without nodes.
use Rattle.std.proofs.Common.{◌≡◌, ℕ, zero, suc, ◌+◌, ◌<◌, ◌≤◌, ◌^◌, List, [], ◌∷◌, length, take, get_or, refl, sym}
use Rattle.std.proofs.Common.{◌∙◌, ap, subst, inl, inr, arith}
use Rattle.std.proofs.lemmas.Bool.{cases_eq}
use Rattle.event_counts.specs.Count.{last_count}
use Rattle.zdd_families.proofs.MapLemmas.{family-empty, family-unit}
use Rattle.zdd_families.proofs.MinimalLemmas.{minimal-none, minimal-unit}
use Rattle.zdd_families.specs.Antichains.{IsAntichain}
use Rattle.kept_answers.specs.{declared.answers.Entry.Entry, Kept.AreKept}
use Rattle.family_memory.specs.{declared.extents.Extent.Extent, Kept.AreExtents, Kept.KeepsNodes}
use Rattle.family_memory.proofs.Entries.{told_of_none}
use Rattle.family_memory.specs.Memory.{Held, Has, IsSound, family_in, map_of}

abbrev pub no_nodes : ℕ → ℕ → Held
no_nodes room refused = record { words = 0 ∷ 0 ∷ []; room = room; refused = refused }

none_known : (room refused r : ℕ) → map_of (no_nodes room refused) r ≡ 0
none_known room refused zero = refl
none_known room refused (suc zero) = refl
none_known room refused (suc (suc r)) = refl

antichains : (room refused r : ℕ) → Has (no_nodes room refused) r → IsAntichain (family_in (no_nodes room refused) r)
antichains room refused zero has =
    subst IsAntichain (sym (family-empty (map_of (no_nodes room refused)))) minimal-none
antichains room refused (suc zero) has =
    subst IsAntichain (sym (family-unit (map_of (no_nodes room refused)))) minimal-unit
antichains room refused (suc (suc r)) has = absurd (omega arith)

sound : (room refused : ℕ) → refused ≤ last_count → IsSound (no_nodes room refused)
sound room refused counted = record {
  terminals = omega arith;
  fits = omega arith;
  closed = λ r has. absurd (has (none_known room refused r));
  filled = λ r inner has. absurd (omega arith);
  antichains = antichains room refused;
  counted = counted;
}

pub kept_empty : {held : Held} {capacity : ℕ} {entries : List Entry} {extents : List Extent} {capacity' : ℕ}
    → held.words ≡ 0 ∷ 0 ∷ [] → held.refused ≤ last_count → held.room ≤ 2 ^ 25 → held.room + 2 ≤ capacity
    → AreKept [] entries → AreExtents held extents → held.room + 2 ≤ capacity'
    → KeepsNodes held capacity entries extents capacity'
kept_empty {held} {entries} none counted few taken kept are taken' =
    let is : IsSound held =
    subst (λ l. IsSound (record { words = l; room = held.room; refused = held.refused })) (sym none)
    (sound held.room held.refused counted) in
    record {
      sound = is;
      few = few;
      taken = taken;
      told = told_of_none entries is kept;
      reach = are;
      reach_taken = taken';
    }

pub two : (words : List ℕ) → 2 ≤ length words → get_or words 0 0 ≡ 0 → get_or words 1 0 ≡ 0 → take 2 words ≡ 0 ∷ 0 ∷ []
two [] few e f = absurd (omega arith)
two (w ∷ []) few e f = absurd (omega arith)
two (w ∷ v ∷ words) few e f = ap (λ n. n ∷ v ∷ take 0 words) e ∙ ap (λ n. 0 ∷ n ∷ take 0 words) f

no_word : {held : Held} → IsSound held → (r : ℕ) → r < 2 → map_of held r ≡ 0
no_word {held} is r small =
    elim (cases_eq (map_of held r) 0) [
      | inl none ↦ none
      | inr has ↦ absurd (let above : 2 ≤ r = (is.closed r has).0 in omega arith)
    ]

-- the words that are kept of a memory that is emptied
pub first_two : {held : Held} → IsSound held → take 2 held.words ≡ 0 ∷ 0 ∷ []
first_two {held} is = two held.words is.terminals (no_word is 0 (omega arith)) (no_word is 1 (omega arith))
