-- What a gate reads does not depend on the order of its inputs.
use Rattle.std.specs.Prelude.{◌≡◌, ℕ, Bool, true, false, not, ◌&&◌, ◌||◌, nat_le, if◌then◌else◌, List, [], ◌∷◌}
use Rattle.std.specs.List.{list_any, list_all, sum_by}
use Rattle.std.specs.List.Sorted.{IsPermutation}
use Rattle.std.proofs.Common.{refl, sym, ◌∙◌, ap, subst}
use Rattle.std.proofs.lemmas.List.Sorted.{All-permutation, list_any-IsPermutation, sum_by-IsPermutation}
use Rattle.std.proofs.lemmas.List.Recursion.{is_sum_by}
use Rattle.fault_definitions.specs.Reading.{true_count}
use Rattle.cutset_lists.specs.Generation.{HasList, StartsFrom, reading_of, Follows, each_rule, at_least_rule}

not_any : (b : Bool) (c : Bool) → (b && not c) ≡ not (not b || c)
not_any true c = refl
not_any false c = refl

-- all read true where none reads false
all_by_none : (reading : ℕ → Bool) (nodes : List ℕ)
    → list_all reading nodes ≡ not (list_any (λ node. not (reading node)) nodes)
all_by_none reading [] = refl
all_by_none reading (node ∷ nodes) =
    ap (λ b. reading node && b) (all_by_none reading nodes)
    ∙ not_any (reading node) (list_any (λ other. not (reading other)) nodes)

pub list_all-IsPermutation : (reading : ℕ → Bool) {nodes order : List ℕ} → IsPermutation nodes order
    → list_all reading order ≡ list_all reading nodes
list_all-IsPermutation reading {nodes} {order} moved =
    all_by_none reading order ∙ sym (ap not (list_any-IsPermutation (λ node. not (reading node)) nodes order moved))
    ∙ sym (all_by_none reading nodes)

abbrev one_if : (ℕ → Bool) → ℕ → ℕ
one_if reading node = if reading node then 1 else 0

count_by_sum : (reading : ℕ → Bool) (nodes : List ℕ) → true_count reading nodes ≡ sum_by (one_if reading) nodes
count_by_sum reading nodes = is_sum_by (true_count reading) (one_if reading) refl (λ node others. refl) nodes

pub true_count-IsPermutation : (reading : ℕ → Bool) {nodes order : List ℕ} → IsPermutation nodes order
    → true_count reading order ≡ true_count reading nodes
true_count-IsPermutation reading {nodes} {order} moved =
    count_by_sum reading order ∙ sum_by-IsPermutation (one_if reading) nodes order moved
    ∙ sym (count_by_sum reading nodes)

-- ---- of values as the code has them

module _ (lists : List (List (List ℕ))) {nodes order items : List ℕ} (moved : IsPermutation nodes items)
    (items_are : order ≡ items) where
  moved_order : IsPermutation nodes order
  moved_order = subst (IsPermutation nodes) (sym items_are) moved

  pub StartsFrom-order : {made : List (List ℕ)} → StartsFrom lists nodes made → StartsFrom lists order made
  StartsFrom-order starts = record {
    have = All-permutation (HasList lists) nodes order moved_order starts.have;
    none = starts.none;
  }

  pub each-order : (made : List (List ℕ)) → Follows lists (each_rule order) made → Follows lists (each_rule nodes) made
  each-order made follows = record {
    some_within = λ within. follows.some_within within
        ∙ list_all-IsPermutation (reading_of lists within) moved_order;
    sets = follows.sets;
  }

  pub at_least-order : (least : ℕ) (made : List (List ℕ)) → Follows lists (at_least_rule least order) made
      → Follows lists (at_least_rule least nodes) made
  at_least-order least made follows = record {
    some_within =
        λ within. follows.some_within within ∙ ap (nat_le least)
        (true_count-IsPermutation (reading_of lists within) moved_order);
    sets = follows.sets;
  }
