-- Texts of units, made one after another.
use Rattle.std.specs.Prelude.{◌≡◌, ℕ, ◌+◌, ◌-◌, ◌<◌, ◌≤◌, List, [], ◌∷◌, ◌++◌, length, slice_index_or}
use Rattle.std.proofs.Common.{◌∙◌, ap, arith, inl, inr}
use Rattle.std.proofs.lemmas.Bool.{cases_lt}
use Rattle.std.proofs.lemmas.List.{get_or_append_left, get_or_push, length_push}
use Rattle.fault_definitions.specs.Tree.{FaultTree, unit_count}
use Rattle.cut_texts.specs.UnitTexts.{AreTextsOf, unit_text}

-- the texts of so many units
pub record AreFirstTexts (tree : FaultTree) (texts : List (List ℕ)) (count : ℕ) : Type 0 where
  pub some : length texts ≡ count
  pub few : count ≤ unit_count tree
  pub each : (unit : ℕ) → 1 ≤ unit → unit ≤ count → slice_index_or texts (unit - 1) [] ≡ unit_text tree unit

module _ (tree : FaultTree) where
  pub none_yet : {texts : List (List ℕ)} → texts ≡ [] → AreFirstTexts tree texts 0
  none_yet is = record {
    some = ap length is;
    few = omega arith;
    each = λ unit some few. absurd (omega (arith, some, few));
  }

  pub one_more : {texts new : List (List ℕ)} {count : ℕ} {row : List ℕ} → AreFirstTexts tree texts count
      → count < unit_count tree → row ≡ unit_text tree (count + 1) → new ≡ texts ++ row ∷ []
      → AreFirstTexts tree new (count + 1)
  one_more {texts} {count} {row} first less is grown =
      let each : (unit : ℕ) → 1 ≤ unit → unit ≤ count + 1
      → slice_index_or (texts ++ row ∷ []) (unit - 1) [] ≡ unit_text tree unit = λ unit some few.
      elim (cases_lt count unit) [
        | inl last ↦
            let place : length texts ≡ unit - 1 = omega (arith, first.some, last, few) in
            let next : count + 1 ≡ unit = omega (arith, last, few) in
            get_or_push texts row [] (unit - 1) place ∙ is ∙ ap (unit_text tree) next
        | inr before ↦
            get_or_append_left texts (row ∷ []) [] (unit - 1) (omega (arith, first.some, some, before))
            ∙ first.each unit some before
      ] in
      record {
        some = ap length grown ∙ length_push texts row ∙ ap (λ n. n + 1) first.some;
        few = omega (arith, less);
        each = λ unit some few. ap (λ l. slice_index_or l (unit - 1) []) grown ∙ each unit some few;
      }

  pub all_of_them : {texts : List (List ℕ)} {count : ℕ} → AreFirstTexts tree texts count → unit_count tree ≤ count
      → AreTextsOf tree texts
  all_of_them {count} first all = record {
    count = omega (arith, first.some, all);
    each = λ unit known. first.each unit known.0 (omega (arith, known.1, all));
  }
