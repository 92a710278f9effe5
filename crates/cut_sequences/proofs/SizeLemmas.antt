-- In a cut list no set is smaller than one before it.
use Rattle.std.proofs.Common.{◌≡◌, ℕ, zero, suc, ◌+◌, ◌<◌, ◌≤◌, List, [], All, drop, get_or, length, sym, subst, ◌∙◌}
use Rattle.std.proofs.Common.{refl, arith}
use Rattle.std.specs.Ordering.{nat_cmp, ordering_then, MatchOrdering}
use Rattle.std.specs.{Cmp.Lexicographic.slice_cmp, declared.cmp.Ordering.Ordering}
use Rattle.std.specs.declared.cmp.Ordering.TheVariants.{Less, Equal, Greater}
use Rattle.std.proofs.{lemmas.Cmp.ranked, lemmas.Map.Keys.Less-from_sorted}
use Rattle.std.proofs.lemmas.List.{get_or-drop, get_or_default, length-drop}
use Rattle.unit_sets.specs.CutOrder.{cut_cmp, IsInCutOrder}

not_above : (a b : ℕ) (order second : Ordering) → MatchOrdering order (a < b) (a ≡ b) (b < a)
    → ordering_then order second ≡ Less → a ≤ b
not_above a b Less second is less = omega (arith, is)
not_above a b Equal second is less = omega (arith, is)
not_above a b Greater second is less = absurd cc

no_larger : (x y : List ℕ) → cut_cmp x y ≡ Less → length x ≤ length y
no_larger x y less =
    not_above (length x) (length y) (nat_cmp (length x) (length y)) (slice_cmp nat_cmp x y)
    (ranked (length x) (length y) (nat_cmp (length x) (length y)) refl) less

module _ (cuts : List (List ℕ)) (i most : ℕ) (ordered : IsInCutOrder cuts)
    (large : most < length (get_or cuts i [])) where
  large_at : (k : ℕ) → i + k < length cuts → most < length (get_or cuts (i + k) [])
  large_at zero inside =
      let here : i ≡ i + 0 = omega arith in subst (λ n. most < length (get_or cuts n [])) here large
  large_at (suc k) inside =
      let less = Less-from_sorted cut_cmp cuts i (i + suc k) [] ordered (omega arith) inside in
      let up : length (get_or cuts i []) ≤ length (get_or cuts (i + suc k) []) =
      no_larger (get_or cuts i []) (get_or cuts (i + suc k) []) less in omega (arith, large, up)

  -- where a set is too large, all behind it are
  pub larger_from : All (λ (cut : List ℕ). most < length cut) (drop i cuts)
  larger_from k d short =
      let inside : i + k < length cuts = omega (arith, short, length-drop i cuts) in
      subst (λ (cut : List ℕ). most < length cut)
      (get_or_default cuts (i + k) [] d inside ∙ sym (get_or-drop i cuts k d)) (large_at k inside)
