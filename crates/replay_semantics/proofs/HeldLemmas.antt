-- What a replay keeps, from the empty order on, over a push and over a pop.
use Rattle.std.proofs.Common.{◌≡◌, ◌≢◌, ℕ, suc, ◌+◌, ◌<◌, ◌≤◌, min, Bool, true, false, not, ◌==◌, ◌&&◌, ◌||◌, List, []}
use Rattle.std.proofs.Common.{◌∷◌, ◌++◌, length, take, drop, get_or, Contains, Some, None, is_some, nat_le}
use Rattle.std.proofs.Common.{if◌then◌else◌, replicate, refl, arith, ap, sym, subst, ◌∙◌, inl, inr}
use Rattle.std.specs.List.{list_all}
use Rattle.std.proofs.lemmas.Bool.{cases_Bool, cases_lt, and_from, and_parts, eq-eqb, eqb-true, le-leb, lt-leb}
use Rattle.std.proofs.lemmas.Bool.{leb-true, false_from_ne_true, cond-true, cond-false}
use Rattle.std.proofs.lemmas.List.{length-take, length-drop, length-take-le, length_push, get_or-take, get_or-drop}
use Rattle.std.proofs.lemmas.List.{get_or_append_left, get_or_push, get_or_default, get_or_past, get_or-replicate}
use Rattle.std.proofs.lemmas.List.{length-replicate, take_all, take-take, take-append-le, take-append-drop}
use Rattle.std.proofs.lemmas.List.{drop-append-le, drop_all}
use Rattle.std.proofs.lemmas.List.Elements.{All-nil, All-push, All-take}
use Rattle.std.proofs.lemmas.List.Quantifiers.{all_pairs_push}
use Rattle.unit_sets.specs.UnitList.{among}
use Rattle.unit_sets.proofs.UnitListLemmas.{Contains-from_among, among-from_Contains}
use Rattle.fault_words.specs.declared.kind.GateKind.{GateKind}
use Rattle.fault_words.specs.declared.kind.GateKind.TheVariants.{Seq, Csp}
use Rattle.fault_model.specs.Order.{AreDistinct}
use Rattle.fault_definitions.specs.Tree.{FaultTree, IsNodeOf, IsUnitOf, node_count, unit_count, kind_of, inputs_of}
use Rattle.fault_definitions.specs.WellFormed.{IsTree}
use Rattle.fault_definitions.proofs.{ReadingLaws.reads-empty, StepLaws.step-reads}
use Rattle.fault_definitions.specs.Step.{Step, never, no_later, is_before, never_falls, place, step}
use Rattle.fault_definitions.specs.FailingOrder.{spares_wait, gate_admits, is_admissible, is_failing}
use Rattle.replay_semantics.proofs.{FailingLemmas.same_test, Places.among-append, AdmissionLaws.gates-from}
use Rattle.replay_semantics.proofs.{LogLemmas.few_distinct}
use Rattle.replay_semantics.specs.Held.{HoldsReplay, start_of, GoesBack, StartsRise, IsAdmittedUpTo, admitted_after}
use Rattle.replay_semantics.specs.Readers.{AreReaders}
use Rattle.replay_semantics.specs.Spread.{AreFailed, HaveFailed, step_without}
use Rattle.replay_semantics.specs.Table.{step_in, has_step, HoldsSteps}

-- ---- tests

and_none : (a : Bool) → (a && false) ≡ false
and_none true = refl
and_none false = refl

without_both : (first second : Bool) (at : Step)
    → (if first then never else (if second then never else at)) ≡ (if first || second then never else at)
without_both true second at = refl
without_both false second at = refl

never_either : (test : Bool) → (if test then never else never) ≡ never
never_either true = refl
never_either false = refl

le_same : (a b c : ℕ) → a ≤ c → nat_le a (min b c) ≡ nat_le a b
le_same a b c low =
    same_test (nat_le a (min b c)) (nat_le a b)
    (λ h. let le = leb-true a (min b c) h in le-leb a b (omega arith))
    (λ h. let le = leb-true a b h in le-leb a (min b c) (omega arith))

-- ---- the empty order

step-none : {tree : FaultTree} → IsTree tree → (node : ℕ) → step tree [] node ≡ never
step-none {tree} kept node =
    none (step tree [] node)
    (false_from_ne_true (is_some (step tree [] node))
    (λ some. let fails = step-reads tree [] node some in
    let lives = reads-empty kept (among []) (λ n. refl) node in absurd cc))
  where
    none : (at : Step) → is_some at ≡ false → at ≡ never
    none None h = refl
    none (Some n) h = absurd cc

falls_never : (f : ℕ → Step) → ((n : ℕ) → f n ≡ never) → (nodes : List ℕ) → never_falls f nodes ≡ true
falls_never f none [] = refl
falls_never f none (node ∷ []) = refl
falls_never f none (node ∷ next ∷ nodes) =
    and_from (no_later (f node) (f next)) (never_falls f (next ∷ nodes)) (ap (no_later (f node)) (none next))
    (falls_never f none (next ∷ nodes))

nothing_waits : (f : ℕ → Step) (input : ℕ) (spares : List ℕ)
    → list_all (λ spare. not (among [] spare) || is_before (f input) (place [] spare)) spares ≡ true
nothing_waits f input [] = refl
nothing_waits f input (spare ∷ spares) = nothing_waits f input spares

spares_free : (f : ℕ → Step) (inputs : List ℕ) → spares_wait f [] inputs ≡ true
spares_free f [] = refl
spares_free f (input ∷ spares) =
    and_from (list_all (λ spare. not (among [] spare) || is_before (f input) (place [] spare)) spares)
    (spares_wait f [] spares) (nothing_waits f input spares) (spares_free f spares)

gate_free : (f : ℕ → Step) → ((n : ℕ) → f n ≡ never) → (kind : GateKind) (inputs : List ℕ)
    → gate_admits f [] (kind, inputs) ≡ true
gate_free f none Seq inputs = falls_never f none inputs
gate_free f none Csp inputs = spares_free f inputs
gate_free f none _ inputs = refl

pub admissible-none : {tree : FaultTree} → IsTree tree → is_admissible tree [] ≡ true
admissible-none {tree} kept =
    gates-from kept (gate_admits (step tree []) [])
    (λ gate is_gate. gate_free (step tree []) (step-none kept) (kind_of tree gate) (inputs_of tree gate))

no_step : (count node : ℕ) → step_in (replicate count None) node ≡ never
no_step count node =
    elim (cases_lt node count) [
      | inl short ↦ get_or-replicate count node never never short
      | inr past ↦ get_or_past (replicate count never) node never
          (omega (arith, past, length-replicate {A = Step} count never))
    ]

pub holds_none : {tree : FaultTree} → IsTree tree → {rows : List (List ℕ)} → AreReaders tree rows → {nodes : ℕ}
    → nodes ≡ node_count tree → HoldsReplay tree rows (replicate (suc nodes) None) [] [] [] 0
holds_none {tree} kept readers {nodes} same = record {
  kept = kept;
  readers = readers;
  failed = record {
    table = length-replicate (suc nodes) never ∙ ap suc same;
    spare = no_step (suc nodes) 0;
    nodes = All-nil (IsNodeOf tree);
    distinct = λ i j d less short. absurd (omega arith);
    failed = All-nil (λ node. has_step (replicate (suc nodes) None) node ≡ true);
  };
  units = All-nil (IsUnitOf tree);
  distinct = λ i j d less short. absurd (omega arith);
  starts_all = refl;
  starts_rise = λ early later le within. omega arith;
  back = λ at within node is_node.
      let first : at ≡ 0 = omega arith in
      subst (λ (n : ℕ). step_without (drop (start_of [] [] n) []) (replicate (suc nodes) None) node
      ≡ step tree (take n []) node) (sym first) (no_step (suc nodes) node ∙ sym (step-none kept node));
  admitted = λ at within.
      let first : at ≡ 0 = omega arith in
      subst (λ (n : ℕ). is_admissible tree (take n []) ≡ nat_le n 0) (sym first) (admissible-none kept);
  within = omega arith;
}

-- ---- a push

module _ {tree : FaultTree} {rows : List (List ℕ)} {steps : List Step} {log order starts : List ℕ} {up_to : ℕ}
    (held : HoldsReplay tree rows steps log order starts up_to) where
  all_of : take (length order) order ≡ order
  all_of = take_all (length order) order (omega arith)

  start_end : start_of starts log (length order) ≡ length log
  start_end = get_or_past starts (length order) (length log) (omega (arith, held.starts_all))

  pub start_within : (at : ℕ) → at ≤ length order → start_of starts log at ≤ length log
  start_within at within =
      let rise = held.starts_rise at (length order) within (omega arith) in omega (arith, start_end)

  -- the table has the steps under the order
  pub holds_now : HoldsSteps tree order steps
  holds_now node is_node =
      let nothing : drop (start_of starts log (length order)) log ≡ [] =
      drop_all (start_of starts log (length order)) log (omega (arith, start_end)) in
      sym (ap (λ xs. step_without xs steps node) nothing) ∙ held.back (length order) (omega arith) node is_node
      ∙ ap (λ w. step tree w node) all_of

  pub admitted_now : is_admissible tree order ≡ nat_le (length order) up_to
  admitted_now = ap (is_admissible tree) (sym all_of) ∙ held.admitted (length order) (omega arith)

  pub few_units : length order ≤ unit_count tree
  few_units = few_distinct (unit_count tree) order held.distinct held.units

  module _ (unit : ℕ) (is_unit : IsUnitOf tree unit) (fresh : among order unit ≡ false) where
    distinct_more : AreDistinct (order ++ unit ∷ [])
    distinct_more =
        all_pairs_push (λ a b. a ≢ b) order unit held.distinct
        (λ k d short same. let has : among order unit ≡ true =
        among-from_Contains order unit (k, short, get_or_default order k unit d short ∙ same) in absurd cc)

    pub room_for_unit : length order < unit_count tree
    room_for_unit =
        let few =
        few_distinct (unit_count tree) (order ++ unit ∷ []) distinct_more
        (All-push (IsUnitOf tree) order unit held.units is_unit) in
        omega (arith, few, length_push order unit)

    module _ {steps' : List Step} {log' : List ℕ} (fits : Bool) (failed' : AreFailed tree steps' log')
        (have : HaveFailed tree (order ++ unit ∷ []) steps steps' log log')
        (admits : is_admissible tree (order ++ unit ∷ []) ≡ (is_admissible tree order && fits)) where
      abbrev starts' : List ℕ
      starts' = starts ++ length log ∷ []

      longer_log : length log ≤ length log'
      longer_log = omega (arith, length-take (length log) log', ap length have.front)

      start_same : (at : ℕ) → at ≤ length order → start_of starts' log' at ≡ start_of starts log at
      start_same at within =
          elim (cases_lt at (length starts)) [
            | inl short ↦ get_or_append_left starts (length log ∷ []) (length log') at short
                ∙ get_or_default starts at (length log') (length log) short
            | inr past ↦
                let last : length starts ≡ at = omega (arith, held.starts_all) in
                get_or_push starts (length log) (length log') at last ∙ sym (get_or_past starts at (length log) past)
          ]

      start_last : start_of starts' log' (suc (length order)) ≡ length log'
      start_last =
          get_or_past starts' (suc (length order)) (length log')
          (omega (arith, length_push starts (length log), held.starts_all))

      rises : StartsRise (length (order ++ unit ∷ [])) (start_of starts' log')
      rises early later le within =
          elim (cases_lt (length order) later) [
            | inl end ↦
                let is_end : later ≡ suc (length order) = omega (arith, length_push order unit) in
                let last : start_of starts' log' later ≡ length log' = ap (start_of starts' log') is_end ∙ start_last in
                elim (cases_lt (length order) early) [
                  | inl both ↦ let same : early ≡ later = omega arith in omega (arith, ap (start_of starts' log') same)
                  | inr before ↦ omega (arith, last, start_same early before, start_within early before, longer_log)
                ]
            | inr inner ↦
                let first : early ≤ length order = omega arith in
                omega (arith, start_same early first, start_same later inner, held.starts_rise early later le inner)
          ]

      goes_back : GoesBack tree (order ++ unit ∷ []) steps' log' (start_of starts' log')
      goes_back at within node is_node =
          elim (cases_lt (length order) at) [
            | inl end ↦
                let is_end : at ≡ suc (length order) = omega (arith, length_push order unit) in
                let last : start_of starts' log' at ≡ length log' = ap (start_of starts' log') is_end ∙ start_last in
                let nothing : drop (start_of starts' log' at) log' ≡ [] =
                drop_all (start_of starts' log' at) log' (omega (arith, last)) in
                ap (λ xs. step_without xs steps' node) nothing ∙ have.holds node is_node
                ∙ ap (λ w. step tree w node) (sym (take_all at (order ++ unit ∷ [])
                (omega (arith, length_push order unit))))
            | inr inner ↦ earlier_back at inner node is_node
          ]
        where
          earlier_back : (at : ℕ) → at ≤ length order → (node : ℕ) → IsNodeOf tree node
              → step_without (drop (start_of starts' log' at) log') steps' node
              ≡ step tree (take at (order ++ unit ∷ [])) node
          earlier_back at inner node is_node =
              let s : ℕ = start_of starts log at in
              let new : List ℕ = drop (length log) log' in
              let whole : log' ≡ log ++ new =
              sym (take-append-drop (length log) log') ∙ ap (λ xs. xs ++ new) have.front in
              let split : drop s log' ≡ drop s log ++ new =
              ap (drop s) whole ∙ drop-append-le s log new (start_within at inner) in
              ap (λ n. step_without (drop n log') steps' node) (start_same at inner)
              ∙ ap (λ xs. step_without xs steps' node) split
              ∙ ap (λ b. if b then never else step_in steps' node) (among-append (drop s log) new node)
              ∙ sym (without_both (among (drop s log) node) (among new node) (step_in steps' node))
              ∙ ap (λ (at : Step). if among (drop s log) node then never else at) (have.undone node)
              ∙ held.back at inner node is_node
              ∙ ap (λ w. step tree w node) (sym (take-append-le at order (unit ∷ []) inner))

      after_true : ((up_to == length order) && fits) ≡ true
          → admitted_after up_to (length order) fits ≡ suc (length order)
      after_true all = cond-true ((up_to == length order) && fits) (suc (length order)) up_to all

      after_false : ((up_to == length order) && fits) ≡ false → admitted_after up_to (length order) fits ≡ up_to
      after_false none = cond-false ((up_to == length order) && fits) (suc (length order)) up_to none

      admitted_same : (at : ℕ) → at ≤ length order → nat_le at (admitted_after up_to (length order) fits)
          ≡ nat_le at up_to
      admitted_same at inner =
          elim (cases_Bool ((up_to == length order) && fits)) [
            | inl all ↦
                let is : up_to ≡ length order =
                eqb-true up_to (length order) (and_parts (up_to == length order) fits all).0 in
                ap (nat_le at) (after_true all) ∙ le-leb at (suc (length order)) (omega arith)
                ∙ sym (le-leb at up_to (omega arith))
            | inr none ↦ ap (nat_le at) (after_false none)
          ]

      admitted_last : nat_le (suc (length order)) (admitted_after up_to (length order) fits)
          ≡ (nat_le (length order) up_to && fits)
      admitted_last =
          elim (cases_Bool ((up_to == length order) && fits)) [
            | inl all ↦
                let parts = and_parts (up_to == length order) fits all in
                let is : up_to ≡ length order = eqb-true up_to (length order) parts.0 in
                ap (nat_le (suc (length order))) (after_true all)
                ∙ le-leb (suc (length order)) (suc (length order)) (omega arith)
                ∙ sym (and_from (nat_le (length order) up_to) fits (le-leb (length order) up_to (omega arith)) parts.1)
            | inr none ↦
                ap (nat_le (suc (length order))) (after_false none)
                ∙ lt-leb (suc (length order)) up_to (omega (arith, held.within))
                ∙ sym (false_from_ne_true (nat_le (length order) up_to && fits) (λ both.
                let parts = and_parts (nat_le (length order) up_to) fits both in
                let is : up_to ≡ length order = omega (arith, leb-true (length order) up_to parts.0, held.within) in
                let all : ((up_to == length order) && fits) ≡ true =
                and_from (up_to == length order) fits (eq-eqb up_to (length order) is) parts.1 in absurd cc))
          ]

      admitted_each : IsAdmittedUpTo tree (order ++ unit ∷ []) (admitted_after up_to (length order) fits)
      admitted_each at within =
          elim (cases_lt (length order) at) [
            | inl end ↦
                let is_end : at ≡ suc (length order) = omega (arith, length_push order unit) in
                ap (is_admissible tree) (take_all at (order ++ unit ∷ []) (omega (arith, length_push order unit)))
                ∙ admits
                ∙ ap (λ b. b && fits) admitted_now ∙ sym admitted_last
                ∙ ap (λ n. nat_le n (admitted_after up_to (length order) fits)) (sym is_end)
            | inr inner ↦ ap (is_admissible tree) (take-append-le at order (unit ∷ []) inner) ∙ held.admitted at inner
                ∙ sym (admitted_same at inner)
          ]

      stays_within : admitted_after up_to (length order) fits ≤ length (order ++ unit ∷ [])
      stays_within =
          elim (cases_Bool ((up_to == length order) && fits)) [
            | inl all ↦ omega (arith, after_true all, length_push order unit)
            | inr none ↦ omega (arith, after_false none, length_push order unit, held.within)
          ]

      pub holds_more : HoldsReplay tree rows steps' log' (order ++ unit ∷ []) (starts ++ length log ∷ [])
          (admitted_after up_to (length order) fits)
      holds_more = record {
        kept = held.kept;
        readers = held.readers;
        failed = failed';
        units = All-push (IsUnitOf tree) order unit held.units is_unit;
        distinct = distinct_more;
        starts_all = length_push starts (length log) ∙ ap (λ n. n + 1) held.starts_all ∙ sym (length_push order unit);
        starts_rise = rises;
        back = goes_back;
        admitted = admitted_each;
        within = stays_within;
      }

  -- the order is admissible exactly where its longest admissible beginning is all of it
  pub admitted-all : (up_to == length order) ≡ is_admissible tree order
  admitted-all =
      same_test (up_to == length order) (nat_le (length order) up_to)
      (λ same. let is = eqb-true up_to (length order) same in le-leb (length order) up_to (omega arith))
      (λ le. let is = leb-true (length order) up_to le in eq-eqb up_to (length order) (omega (arith, held.within)))
      ∙ sym admitted_now

-- ---- a pop

distinct-take : (n : ℕ) (xs : List ℕ) → AreDistinct xs → AreDistinct (take n xs)
distinct-take n xs distinct i j d less short =
    let low : j < n = omega (arith, length-take n xs) in
    let within : j < length xs = omega (arith, length-take n xs) in
    let lower : i < n = omega arith in
    λ same. distinct i j d less within (sym (get_or-take n xs i d lower) ∙ same ∙ get_or-take n xs j d low)

-- what stands before a place does not stand after it
apart_after : (xs : List ℕ) (n k d : ℕ) → AreDistinct xs → k < n → k < length xs
    → among (drop n xs) (get_or xs k d) ≡ false
apart_after xs n k d distinct less short =
    false_from_ne_true (among (drop n xs) (get_or xs k d)) (λ has.
    let there : Contains (drop n xs) (get_or xs k d) = Contains-from_among (drop n xs) (get_or xs k d) has in
    let within : n + there.0 < length xs = omega (arith, there.1, length-drop n xs) in
    distinct k (n + there.0) (get_or xs k d) (omega arith) within
    (get_or_default xs k (get_or xs k d) d short ∙ sym there.2 ∙ get_or-drop n xs there.0 (get_or xs k d)))

module _ (tree : FaultTree) (rows : List (List ℕ)) (steps : List Step) (log order starts : List ℕ) (up_to : ℕ)
    (held : HoldsReplay tree rows steps log order starts up_to)
    (last : ℕ) (is_last : length order ≡ suc last) (steps' : List Step)
    (cleared : (node : ℕ) → step_in steps' node ≡ step_without (drop (start_of starts log last) log) steps node)
    (same_table : length steps' ≡ length steps) where
  abbrev s : ℕ
  s = start_of starts log last

  abbrev log' : List ℕ
  log' = take s log

  s_within : s ≤ length log
  s_within = start_within held last (omega arith)

  log_length : length log' ≡ s
  log_length = length-take-le s log s_within

  still_failed : (k d : ℕ) → k < length log' → has_step steps' (get_or log' k d) ≡ true
  still_failed k d short =
      let low : k < s = omega (arith, log_length) in
      let within : k < length log = omega (arith, s_within) in
      let at : get_or log' k d ≡ get_or log k d = get_or-take s log k d low in
      ap is_some (ap (step_in steps') at ∙ cleared (get_or log k d)
      ∙ cond-false (among (drop s log) (get_or log k d)) never (step_in steps (get_or log k d))
      (apart_after log s k d held.failed.distinct low within))
      ∙ held.failed.failed k d within

  start_kept : (at : ℕ) → at ≤ last → start_of (take last starts) log' at ≡ start_of starts log at
  start_kept at within =
      elim (cases_lt at last) [
        | inl short ↦
            let reach : at < length starts = omega (arith, held.starts_all) in
            get_or-take last starts at (length log') short ∙ get_or_default starts at (length log') (length log) reach
        | inr past ↦
            let is : at ≡ last = omega arith in
            get_or_past (take last starts) at (length log') (omega (arith, length-take last starts)) ∙ log_length
            ∙ ap (start_of starts log) (sym is)
      ]

  order_length : length (take last order) ≡ last
  order_length = length-take-le last order (omega arith)

  back_again : GoesBack tree (take last order) steps' log' (start_of (take last starts) log')
  back_again at within node is_node =
      let inner : at ≤ last = omega (arith, order_length) in
      let t : ℕ = start_of starts log at in
      let low : t ≤ s = held.starts_rise at last inner (omega arith) in
      let split : drop t log ≡ drop t log' ++ drop s log =
      ap (drop t) (sym (take-append-drop s log)) ∙ drop-append-le t log' (drop s log) (omega (arith, log_length)) in
      ap (λ n. step_without (drop n log') steps' node) (start_kept at inner)
      ∙ ap (λ (x : Step). if among (drop t log') node then never else x) (cleared node)
      ∙ without_both (among (drop t log') node) (among (drop s log) node) (step_in steps node)
      ∙ ap (λ b. if b then never else step_in steps node) (sym (among-append (drop t log') (drop s log) node))
      ∙ ap (λ xs. step_without xs steps node) (sym split)
      ∙ held.back at (omega arith) node is_node
      ∙ ap (λ w. step tree w node) (sym (take-take at last order inner))

  pub holds_less : HoldsReplay tree rows steps' (take (start_of starts log last) log) (take last order)
      (take last starts) (min up_to last)
  holds_less = record {
    kept = held.kept;
    readers = held.readers;
    failed = record {
      table = same_table ∙ held.failed.table;
      spare =
          cleared 0 ∙ ap (λ (x : Step). if among (drop s log) 0 then never else x) held.failed.spare
          ∙ never_either (among (drop s log) 0);
      nodes = All-take (IsNodeOf tree) s log held.failed.nodes;
      distinct = distinct-take s log held.failed.distinct;
      failed = still_failed;
    };
    units = All-take (IsUnitOf tree) last order held.units;
    distinct = distinct-take last order held.distinct;
    starts_all = length-take-le last starts (omega (arith, held.starts_all)) ∙ sym order_length;
    starts_rise = λ early later le within.
        let inner : later ≤ last = omega (arith, order_length) in
        let first : early ≤ last = omega arith in
        omega (arith, start_kept early first, start_kept later inner, held.starts_rise early later le (omega arith));
    back = back_again;
    admitted = λ at within.
        let inner : at ≤ last = omega (arith, order_length) in
        ap (is_admissible tree) (take-take at last order inner) ∙ held.admitted at (omega arith)
        ∙ sym (le_same at up_to last inner);
    within = omega (arith, order_length);
  }

-- ---- a whole order

-- no order without units fails the top event
pub failing-none : {tree : FaultTree} → IsTree tree → {order : List ℕ} → order ≡ [] → is_failing tree order ≡ false
failing-none {tree} kept empty =
    ap (is_failing tree) empty ∙ ap (λ (at : Step). is_admissible tree [] && is_some at) (step-none kept tree.top)
    ∙ and_none (is_admissible tree [])

-- the next unit of an order is none of those before it
pub fresh_next : (units : List ℕ) (i : ℕ) {unit : ℕ} → AreDistinct units → i < length units → unit ≡ get_or units i unit
    → among (take i units) unit ≡ false
fresh_next units i {unit} distinct short is =
    false_from_ne_true (among (take i units) unit) (λ has.
    let there : Contains (take i units) unit = Contains-from_among (take i units) unit has in
    let low : there.0 < i = omega (arith, there.1, length-take i units) in
    distinct there.0 i unit low short (sym (get_or-take i units there.0 unit low) ∙ there.2 ∙ is))
