-- How counts grow, one node's list after another.
use Rattle.std.specs.Prelude.{◌≡◌, ◌≢◌, ℕ, zero, suc, ◌+◌, ◌-◌, ◌<◌, ◌≤◌, Bool, true, false, ◌&&◌, ◌||◌, nat_le}
use Rattle.std.specs.Prelude.{if◌then◌else◌, List, [], ◌∷◌, ◌++◌, length, take, All, max, replicate, get_or, ◌⊎◌}
use Rattle.std.proofs.Common.{refl, sym, ◌∙◌, ap, subst, inl, inr, arith, set, add-one}
use Rattle.std.proofs.lemmas.Bool.{cases_lt, cases_eq, lt-leb, le-leb}
use Rattle.std.proofs.lemmas.Bool.Decides.{nat_tests}
use Rattle.std.proofs.lemmas.List.{take_more, take_all, get_or-set_other, get_or-set_same, length-replicate, length-set}
use Rattle.std.proofs.lemmas.List.{set-set}
use Rattle.std.proofs.lemmas.List.{get_or_default}
use Rattle.std.proofs.lemmas.List.Elements.{All-nil, All-cons, All-get_or, All-replicate, All-set}
use Rattle.fault_definitions.specs.Reading.{true_count}
use Rattle.cutset_lists.specs.Sets.{IsSetOf, AreSetsOf, AddsProduct}
use Rattle.cutset_lists.specs.Generation.{list_at, HasList, reading_of, Follows, at_least_rule}
use Rattle.cutset_lists.specs.Counts.{count_at, IsCounting, CountsMore, CountsList}
use Rattle.cutset_lists.proofs.GateLemmas.{empty_set_of, has_list, node_read, list_read}
use Rattle.unit_sets.specs.UnitList.{some_within}

-- ---- counts of no nodes

none_at : (n i : ℕ) → get_or (replicate n (let none : List (List ℕ) = [] in none)) i [] ≡ []
none_at zero i = refl
none_at (suc n) zero = refl
none_at (suc n) (suc i) = none_at n i

none_reached : (most at : ℕ) (within : ℕ → Bool)
    → some_within (count_at (([] ∷ []) ∷ replicate most []) at) within ≡ nat_le at 0
none_reached most zero within = refl
none_reached most (suc at) within = ap (λ s. some_within s within) (none_at most at)
    ∙ sym (lt-leb (suc at) 0 (omega arith))

-- none is always reached, and no more
pub IsCounting-none : {lists : List (List (List ℕ))} (nodes : List ℕ) {most lowest : ℕ}
    {none counts : List (List (List ℕ))} {first pushed : List (List ℕ)} → none ≡ replicate (most + 1) []
    → first ≡ get_or none 0 first → pushed ≡ first ++ [] ∷ [] → counts ≡ set none 0 pushed
    → IsCounting lists (take 0 nodes) most lowest counts
IsCounting-none {lists} nodes {most} {lowest} {none} {first} {pushed} none_is first_is pushed_is counts_are =
    let all : none ≡ [] ∷ replicate most [] = none_is ∙ ap (λ n. replicate n []) (add-one most) in
    let empty : first ≡ [] = first_is ∙ ap (λ (l : List (List (List ℕ))). get_or l 0 first) all in
    subst (IsCounting lists (take 0 nodes) most lowest)
    (sym (counts_are ∙ ap (λ (l : List (List (List ℕ))). set l 0 pushed) all
    ∙ ap (λ (l : List (List ℕ)). l ∷ replicate most []) (pushed_is ∙ ap (λ (l : List (List ℕ)). l ++ [] ∷ []) empty)))
    (record {
      all = let e = length-replicate most (let no_set : List (List ℕ) = [] in no_set) in omega arith;
      reached = λ at _ _ within. none_reached most at within;
      sets =
          λ passes _. All-cons (AreSetsOf passes) ([] ∷ []) (replicate most []) (empty_set_of passes)
          (All-replicate (AreSetsOf passes) most [] (All-nil (IsSetOf passes)));
    })

-- ---- one list more

module _ {list : List (List ℕ)} {old now new : List (List (List ℕ))} {at : ℕ} (above_none : 1 ≤ at)
    (short : at < length old) (before : CountsList list (at + 1) old now) (more : CountsMore list at now new) where
  at_place : count_at new at ≡ more.grown
  at_place =
      ap (λ counts. count_at counts at) more.is ∙ get_or-set_same now at more.grown []
      (let e = before.all in omega arith)

  elsewhere : (q : ℕ) → q ≢ at → count_at new q ≡ count_at now q
  elsewhere q other = ap (λ counts. count_at counts q) more.is ∙ get_or-set_other now at q more.grown [] other

  reached_here : (within : ℕ → Bool) → some_within (count_at new at) within
      ≡ (some_within (count_at old at) within
      || (some_within (count_at old (at - 1)) within && some_within list within))
  reached_here within =
      ap (λ s. some_within s within) at_place
      ∙ more.reached within
      ∙ ap (λ s. some_within s within || (some_within (count_at now (at - 1)) within && some_within list within))
      (before.lower at (omega arith))
      ∙ ap (λ s. some_within (count_at old at) within || (some_within s within && some_within list within))
      (before.lower (at - 1) (omega arith))

  pub CountsList-more : CountsList list at old new
  CountsList-more = record {
    all = ap length more.is ∙ length-set now at more.grown ∙ before.all;
    lower = λ q low. elsewhere q (λ same. omega arith) ∙ before.lower q (omega arith);
    reached = λ q above within_old within.
        elim (cases_eq q at) [
          | inl same ↦ subst (λ (n : ℕ). some_within (count_at new n) within
              ≡ (some_within (count_at old n) within
              || (some_within (count_at old (n - 1)) within && some_within list within))) (sym same)
              (reached_here within)
          | inr other ↦ ap (λ s. some_within s within) (elsewhere q other)
              ∙ before.reached q (omega arith) within_old within
        ];
    sets =
        λ passes of each. subst (All (AreSetsOf passes)) (sym more.is)
        (All-set (AreSetsOf passes) now at more.grown (more.sets passes of (before.sets passes of each))
        (before.sets passes of each));
  }

-- ---- one node more

true_count-push : (reading : ℕ → Bool) (nodes : List ℕ) (node : ℕ)
    → true_count reading (nodes ++ node ∷ []) ≡ true_count reading nodes + (if reading node then 1 else 0)
true_count-push reading [] node = omega arith
true_count-push reading (first ∷ nodes) node = let ih = true_count-push reading nodes node in omega arith

count_step : (at count : ℕ) (reads : Bool) → 1 ≤ at
    → (nat_le at count || (nat_le (at - 1) count && reads)) ≡ nat_le at (count + (if reads then 1 else 0))
count_step at count true some = grind (arith, nat_tests)
count_step at count false some = grind (arith, nat_tests)

module _ (lists : List (List (List ℕ))) (nodes : List ℕ) (i : ℕ) {node : ℕ} (short : i < length nodes)
    (is : node ≡ get_or nodes i 0) where
  counted : (within : ℕ → Bool) → true_count (reading_of lists within) (take (i + 1) nodes)
      ≡ true_count (reading_of lists within) (take i nodes) + (if reading_of lists within node then 1 else 0)
  counted within =
      ap (true_count (reading_of lists within)) (take_more nodes i 0 short)
      ∙ true_count-push (reading_of lists within) (take i nodes) (get_or nodes i 0)
      ∙ ap (λ n. true_count (reading_of lists within) (take i nodes) + (if reading_of lists within n then 1 else 0))
      (sym is)

  pub IsCounting-more : {most floor lowest floor' : ℕ} {counts new : List (List (List ℕ))} {list : List (List ℕ)}
      → list ≡ list_at lists node → HasList lists node → 1 ≤ lowest → floor + 1 ≤ lowest
      → (lowest ≤ floor') ⊎ (lowest ≡ 1) → lowest ≤ most → IsCounting lists (take i nodes) most floor counts
      → CountsList list lowest counts new → IsCounting lists (take (i + 1) nodes) most floor' new
  IsCounting-more {lowest} {counts} {new} {list} at has some low high within_most counting grows = record {
    all = grows.all ∙ counting.all;
    reached = λ q above below within.
        elim (cases_lt q lowest) [
          | inl under ↦ elim high [
            | inl wrong ↦ absurd (omega arith)
            | inr one ↦
                let none : q ≡ 0 = omega arith in
                subst (λ (n : ℕ). some_within (count_at new n) within
                ≡ nat_le n (true_count (reading_of lists within) (take (i + 1) nodes))) (sym none)
                (ap (λ s. some_within s within) (grows.lower 0 (omega arith))
                ∙ counting.reached 0 (omega arith) (omega arith) within ∙ le-leb 0 _ (omega arith)
                ∙ sym (le-leb 0 _ (omega arith)))
          ]
          | inr over ↦
              let e = counting.all in
              grows.reached q over (omega arith) within
              ∙ ap (λ b. b || (some_within (count_at counts (q - 1)) within && some_within list within))
              (counting.reached q (omega arith) below within)
              ∙ ap (λ b. nat_le q (true_count (reading_of lists within) (take i nodes))
              || (b && some_within list within))
              (counting.reached (q - 1) (omega arith) (omega arith) within)
              ∙ ap (λ s. nat_le q (true_count (reading_of lists within) (take i nodes))
              || (nat_le (q - 1) (true_count (reading_of lists within) (take i nodes)) && some_within s within)) at
              ∙ count_step q (true_count (reading_of lists within) (take i nodes)) (reading_of lists within node)
              (omega arith)
              ∙ ap (nat_le q) (sym (counted within))
        ];
    sets =
        λ passes each. grows.sets passes (subst (AreSetsOf passes) (sym at)
        (All-get_or (AreSetsOf passes) lists (node - 1) [] (let p = has.0 in let q = has.1 in omega arith) each))
        (counting.sets passes each);
  }

-- counts up to none stay
pub IsCounting-stays : {lists : List (List (List ℕ))} {before : List ℕ} (after : List ℕ) {floor : ℕ} (floor' : ℕ)
    {counts : List (List (List ℕ))} → IsCounting lists before 0 floor counts → floor ≡ 0
    → IsCounting lists after 0 floor' counts
IsCounting-stays {lists} after floor' {counts} counting low = record {
  all = counting.all;
  reached = λ q above below within.
      let none : q ≡ 0 = omega arith in
      subst (λ (n : ℕ). some_within (count_at counts n) within ≡ nat_le n (true_count (reading_of lists within) after))
      (sym none)
      (counting.reached 0 (omega arith) (omega arith) within ∙ le-leb 0 _ (omega arith)
      ∙ sym (le-leb 0 _ (omega arith)));
  sets = counting.sets;
}

pub IsCounting-end : {lists : List (List (List ℕ))} (nodes : List ℕ) {most : ℕ} (i : ℕ) {floor : ℕ}
    {counts : List (List (List ℕ))}
    {made : List (List ℕ)} → length nodes ≤ i → floor ≤ most → made ≡ count_at counts most
    → IsCounting lists (take i nodes) most floor counts → Follows lists (at_least_rule most nodes) made
IsCounting-end {lists} nodes {most} i {counts} long low made_is counting = record {
  some_within =
      λ within. ap (λ s. some_within s within) made_is ∙ counting.reached most low (omega arith) within
      ∙ ap (λ ns. nat_le most (true_count (reading_of lists within) ns)) (take_all i nodes long);
  sets =
      λ passes each. subst (AreSetsOf passes) (sym made_is)
      (All-get_or (AreSetsOf passes) counts most [] (let e = counting.all in omega arith)
      (counting.sets passes each));
}

-- ---- values as the code has them

-- a list is taken out, grows, and is put back
pub CountsMore-from : (list : List (List ℕ)) (old : List (List (List ℕ))) (at : ℕ)
    (empty : List (List ℕ)) {read taken below : List (List ℕ)} (grown : List (List ℕ)) → 1 ≤ at → at < length old
    → taken ≡ read
    → read ≡ get_or old at read
    → below ≡ get_or (set old at empty) (at - 1) below → AddsProduct below list taken grown
    → CountsMore list at old (set (set old at empty) at grown)
CountsMore-from list old at empty {read} {taken} {below} grown some short taken_read read_is below_is adds =
    let taken_is : taken ≡ count_at old at = taken_read ∙ read_is ∙ get_or_default old at read [] short in
    let below_at : below ≡ count_at old (at - 1) =
    below_is
    ∙ get_or_default (set old at empty) (at - 1) below [] (let e = length-set old at empty in omega arith)
    ∙ get_or-set_other old at (at - 1) empty [] (λ same. omega arith) in
    record {
      grown = grown;
      is = set-set old at empty grown;
      reached = λ within.
          adds.some_within within
          ∙ ap (λ s. some_within s within || (some_within below within && some_within list within)) taken_is
          ∙ ap (λ s. some_within (count_at old at) within
          || (some_within s within && some_within list within)) below_at;
      sets = λ passes of each.
          adds.sets passes
          (subst (AreSetsOf passes) (sym below_at) (All-get_or (AreSetsOf passes) old (at - 1) [] (omega arith) each))
          of
          (subst (AreSetsOf passes) (sym taken_is) (All-get_or (AreSetsOf passes) old at [] short each));
    }

pub CountsList-step : {list : List (List ℕ)} {old now new : List (List (List ℕ))} {above at : ℕ} → 1 ≤ at
    → above ≡ at + 1 → above ≤ length old → CountsList list above old now → CountsMore list at now new
    → CountsList list at old new
CountsList-step {list} {old} {now} some is short before more =
    CountsList-more some (omega arith) (subst (λ (n : ℕ). CountsList list n old now) is before) more

module _ {lists : List (List (List ℕ))} (nodes : List ℕ) {most : ℕ} (i left : ℕ) {lowest : ℕ} (node place : ℕ)
    (list : List (List ℕ))
    {counts : List (List (List ℕ))} (new : List (List (List ℕ))) (short : i < length nodes)
    (left_is : left ≡ length nodes - i - 1)
    (lowest_is : lowest ≡ max (most - left) 1) (all : All (HasList lists) nodes)
    (before : IsCounting lists (take i nodes) most (most - (length nodes - i)) counts) where
  pub counts-step : node ≡ get_or nodes i node → place ≡ node - 1 → list ≡ get_or lists place list → lowest ≤ most
      → CountsList list lowest counts new → IsCounting lists (take (i + 1) nodes) most (most - (length nodes - (i + 1)))
      new
  counts-step is place_is read high counted =
      let has : HasList lists node = has_list lists nodes i short is all in
      IsCounting-more lists nodes i short (node_read nodes i short is)
      (list_read lists node has place_is read) has (omega arith) (omega arith) (low_cases) high before counted
    where
      low_cases : (lowest ≤ most - (length nodes - (i + 1))) ⊎ (lowest ≡ 1)
      low_cases = elim (cases_lt 1 (most - left)) [ inl more ↦ inl (omega arith) | inr one ↦ inr (omega arith) ]

  pub counts-stay : most < lowest → IsCounting lists (take (i + 1) nodes) most (most - (length nodes - (i + 1))) counts
  counts-stay over =
      let none : most ≡ 0 = omega arith in
      let zero_before : IsCounting lists (take i nodes) 0 (0 - (length nodes - i)) counts =
      subst (λ (n : ℕ). IsCounting lists (take i nodes) n (n - (length nodes - i)) counts) none before in
      subst (λ (n : ℕ). IsCounting lists (take (i + 1) nodes) n (n - (length nodes - (i + 1))) counts) (sym none)
      (IsCounting-stays (take (i + 1) nodes) (0 - (length nodes - (i + 1))) zero_before (omega arith))
