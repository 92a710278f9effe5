-- Each step on the way keeps what is known of a failure that spreads, and at its end the table has the steps under the
-- longer order.
use Rattle.std.proofs.Common.{◌≡◌, ◌≢◌, ◌⊎◌, ℕ, suc, ◌+◌, ◌<◌, ◌≤◌, Bool, true, false, ◌==◌, ◌||◌, List, [], ◌∷◌, ◌++◌}
use Rattle.std.proofs.Common.{length, drop, set, get_or, Some, None, is_some, if◌then◌else◌, refl, arith, ap, sym}
use Rattle.std.proofs.Common.{subst, ◌∙◌, inl, inr}
use Rattle.std.proofs.lemmas.Bool.{cases_Bool, cases_eq, or_left, or_right, or_cases, ne_eqb, eq-eqb, le-ltb}
use Rattle.std.proofs.lemmas.Bool.{cond-true}
use Rattle.std.proofs.lemmas.List.{take-append-le, drop-append-le, drop_all, drop_at, take_at, take_all, length_push}
use Rattle.std.proofs.lemmas.List.{drop_more}
use Rattle.unit_sets.specs.UnitList.{among}
use Rattle.fault_definitions.specs.Tree.{FaultTree, IsNodeOf, IsUnitOf, is_above_units, unit_count, node_count}
use Rattle.fault_definitions.specs.{Trigger.below, WellFormed.IsTree}
use Rattle.fault_definitions.specs.Step.{Step, never, place, node_step}
use Rattle.replay_semantics.specs.{Failing.node_fails, Growth.Grows, Growth.AllGrow}
use Rattle.replay_semantics.specs.{declared.failures.Failures.Failures, Readers.readers_in, Readers.AreReaders}
use Rattle.replay_semantics.proofs.GrowthLemmas.{grows-stays, grows-at_most, grows-new, grows-never}
use Rattle.replay_semantics.proofs.StepGrowth.{node_step-grows, place-grows, step-at_most}
use Rattle.replay_semantics.specs.Table.{step_in, has_step, IsTableFor, HoldsSteps}
use Rattle.replay_semantics.proofs.Places.{among-append, or_nothing, place-other, place-itself}
use Rattle.replay_semantics.specs.Spread.{AreFailed, HaveFailed, HaveMore, IsSpreading, Turn, step_without, reads_some}
use Rattle.replay_semantics.proofs.FixedLemmas.{fixed-step, settled_table, node_step-place, node_step-some}
use Rattle.replay_semantics.proofs.FixedLemmas.{node_step-placed, node_step-others}
use Rattle.replay_semantics.proofs.LogLemmas.{step_in-set_same, step_in-set_other, node_or_never, few_distinct}

-- ---- small facts

reads_some-append : (tree : FaultTree) (xs ys : List ℕ) (x : ℕ)
    → reads_some tree (xs ++ ys) x ≡ (reads_some tree xs x || reads_some tree ys x)
reads_some-append tree [] ys x = refl
reads_some-append tree (y ∷ xs) ys x = let rest = reads_some-append tree xs ys x in either (among (below tree x) y) rest
  where
    either : (test : Bool) → reads_some tree (xs ++ ys) x ≡ (reads_some tree xs x || reads_some tree ys x)
        → (test || reads_some tree (xs ++ ys) x) ≡ ((test || reads_some tree xs x) || reads_some tree ys x)
    either true e = refl
    either false e = e

same_grows : (last : ℕ) (at : Step) → ((number : ℕ) → at ≡ Some number → number ≤ last) → Grows last at at
same_grows last None low = tt
same_grows last (Some number) low = (refl, low number refl)

some_or_never : (at : Step) → ((number : ℕ) × (at ≡ Some number)) ⊎ (at ≡ never)
some_or_never None = inr refl
some_or_never (Some number) = inl (number, refl)

never_from : (at : Step) → is_some at ≡ false → at ≡ never
never_from None h = refl
never_from (Some n) h = absurd cc

-- ---- one node is given the step of this turn

module _ (last : ℕ) (steps : List Step) (node : ℕ) (reach : node < length steps)
    (fresh : step_in steps node ≡ never) where
  abbrev longer_steps : List Step
  longer_steps = set steps node (Some last)

  pub set_grows : ((n number : ℕ) → step_in steps n ≡ Some number → number ≤ last)
      → AllGrow last (step_in steps) (step_in (set steps node (Some last)))
  set_grows low = record {
    each = λ n. elim (cases_eq n node) [
      | inl same ↦
          subst (λ (m : ℕ). Grows last (step_in steps m) (step_in longer_steps m)) (sym same)
          (subst (λ (s : Step). Grows last s (step_in longer_steps node)) (sym fresh)
          (subst (λ (s : Step). Grows last never s) (sym (step_in-set_same steps node (Some last) reach)) refl))
      | inr apart ↦ subst (λ (s : Step). Grows last (step_in steps n) s)
          (sym (step_in-set_other steps (Some last) apart)) (same_grows last (step_in steps n) (low n))
    ];
  }

  pub set_grows_from : {before : ℕ → Step} → AllGrow last before (step_in steps)
      → AllGrow last before (step_in (set steps node (Some last)))
  set_grows_from {before} grown = record {
    each = λ n. elim (cases_eq n node) [
      | inl same ↦
          let was : before node ≡ never = grows-never last (before node) (step_in steps node) (grown.each node) fresh in
          subst (λ (m : ℕ). Grows last (before m) (step_in longer_steps m)) (sym same)
          (subst (λ (s : Step). Grows last s (step_in longer_steps node)) (sym was)
          (subst (λ (s : Step). Grows last never s) (sym (step_in-set_same steps node (Some last) reach)) refl))
      | inr apart ↦ subst (λ (s : Step). Grows last (before n) s)
          (sym (step_in-set_other steps (Some last) apart)) (grown.each n)
    ];
  }

-- a step of the grown table is no later than the last place
low_steps : {last : ℕ} {before now : ℕ → Step} → AllGrow last before now → (n number : ℕ) → now n ≡ Some number
    → number ≤ last
low_steps {last} {before} {now} grown n number is = grows-at_most last number (before n) (now n) (grown.each n) is

-- steps that stay, with places that grow
module _ (tree : FaultTree) (turn : Turn) (places : AllGrow turn.last (place turn.order) (place turn.longer)) where
  low_places : (n number : ℕ) → place turn.longer n ≡ Some number → number ≤ turn.last
  low_places n number is = grows-at_most turn.last number (place turn.order n) (place turn.longer n) (places.each n) is

  -- the longer order's places stay
  still : AllGrow turn.last (place turn.longer) (place turn.longer)
  still = record { each = λ n. same_grows turn.last (place turn.longer n) (low_places n) }

  -- a node that has the step which its rule gives keeps it as others fail
  pub keeps_right : {f g : ℕ → Step} → AllGrow turn.last f g → (node number : ℕ)
      → node_step tree turn.longer f node ≡ Some number → node_step tree turn.longer g node ≡ Some number
  keeps_right {f} {g} grow node number is =
      grows-stays turn.last number (node_step tree turn.longer f node) (node_step tree turn.longer g node)
      (node_step-grows tree turn.longer turn.longer still grow node) is

  -- and so does one that had it under the shorter order
  pub keeps_right_from : {f g : ℕ → Step} → AllGrow turn.last f g → (node number : ℕ)
      → node_step tree turn.order f node ≡ Some number → node_step tree turn.longer g node ≡ Some number
  keeps_right_from {f} {g} grow node number is =
      grows-stays turn.last number (node_step tree turn.order f node) (node_step tree turn.longer g node)
      (node_step-grows tree turn.order turn.longer places grow node) is

  -- a node that had no step and gets one gets this turn's
  pub gets_last : {f g : ℕ → Step} → AllGrow turn.last f g → (node : ℕ) → node_step tree turn.order f node ≡ never
      → is_some (node_step tree turn.longer g node) ≡ true → node_step tree turn.longer g node ≡ Some turn.last
  gets_last {f} {g} grow node was some =
      grows-new turn.last (node_step tree turn.order f node) (node_step tree turn.longer g node)
      (node_step-grows tree turn.order turn.longer places grow node) was some

undone_more : (front log : List ℕ) (before steps : List Step) (node last : ℕ) → node < length steps
    → length front ≤ length log → step_in before node ≡ never
    → ((n : ℕ) → step_without (drop (length front) log) steps n ≡ step_in before n)
    → (n : ℕ) → step_without (drop (length front) (log ++ node ∷ [])) (set steps node (Some last)) n ≡ step_in before n
undone_more front log before steps node last reach low was undone n =
    let split : among (drop (length front) (log ++ node ∷ [])) n
    ≡ (among (drop (length front) log) n || (node == n || false)) =
    ap (λ xs. among xs n) (drop-append-le (length front) log (node ∷ []) low)
    ∙ among-append (drop (length front) log) (node ∷ []) n in
    elim (cases_eq n node) [
      | inl same ↦
          let here : (node == n || false) ≡ true = or_left (node == n) false (eq-eqb node n (sym same)) in
          let all : among (drop (length front) (log ++ node ∷ [])) n ≡ true =
          split ∙ or_right (among (drop (length front) log) n) (node == n || false) here in
          cond-true (among (drop (length front) (log ++ node ∷ [])) n) never (step_in (set steps node (Some last)) n)
          all ∙ sym was ∙ ap (step_in before) (sym same)
      | inr apart ↦
          let none : (node == n || false) ≡ false = or_nothing (node == n) ∙ ne_eqb node n (λ e. apart (sym e)) in
          let same : among (drop (length front) (log ++ node ∷ [])) n ≡ among (drop (length front) log) n =
          split ∙ ap (λ b. among (drop (length front) log) n || b) none
          ∙ or_nothing (among (drop (length front) log) n) in
          ap (λ (b : Bool). if b then never else step_in (set steps node (Some last)) n) same
          ∙ ap (λ (s : Step). if among (drop (length front) log) n then never else s)
          (step_in-set_other steps (Some last) apart)
          ∙ undone n
    ]

module _ {tree : FaultTree} {turn : Turn} {steps : List Step} {log todo : List ℕ} {next : ℕ} {node : ℕ}
    (table : IsTableFor tree steps) (is_node : IsNodeOf tree node)
    (spreading : IsSpreading tree turn steps log (node ∷ todo) next) where
  waits_apart : {n : ℕ} → n ≢ node → (among (node ∷ todo) n || reads_some tree (drop next log) n)
      ≡ (among todo n || reads_some tree (drop next log) n)
  waits_apart {n} apart =
      ap (λ (b : Bool). (b || among todo n) || reads_some tree (drop next log) n) (ne_eqb node n (λ e. apart (sym e)))

  pub fails_more : has_step steps node ≡ false → node_fails tree (step_in steps) node ≡ true
      → IsSpreading tree turn (set steps node (Some turn.last)) (log ++ node ∷ []) todo next
  fails_more has fails =
      let reach : node < length steps = omega (arith, table, is_node.1) in
      let fresh : step_in steps node ≡ never = never_from (step_in steps node) has in
      let low = low_steps spreading.grown in
      let grows : AllGrow turn.last (step_in steps) (step_in (set steps node (Some turn.last))) =
      set_grows turn.last steps node reach fresh low in
      let grown : AllGrow turn.last (step_in turn.before) (step_in (set steps node (Some turn.last))) =
      set_grows_from turn.last steps node reach fresh spreading.grown in
      let was : step_in turn.before node ≡ never =
      grows-never turn.last (step_in turn.before node) (step_in steps node) (spreading.grown.each node) fresh in
      let reaches : length turn.front ≤ length log = omega (arith, spreading.low, spreading.high) in
      let at : step_in (set steps node (Some turn.last)) node ≡ Some turn.last =
      step_in-set_same steps node (Some turn.last) reach in
      let rule_was : node_step tree turn.order (step_in turn.before) node ≡ never =
      sym (spreading.settled node is_node) ∙ was in
      let rule_some : is_some (node_step tree turn.longer (step_in steps) node) ≡ true =
      node_step-some tree (step_in steps) node turn.longer fails in
      let rule_is : node_step tree turn.longer (step_in steps) node ≡ Some turn.last =
      gets_last tree turn spreading.places spreading.grown node rule_was rule_some in
      record {
        places = spreading.places;
        settled = spreading.settled;
        low = spreading.low;
        high = omega (arith, spreading.high, length_push log node);
        front = take-append-le (length turn.front) log (node ∷ []) reaches ∙ spreading.front;
        grown = grown;
        undone = undone_more turn.front log turn.before steps node turn.last reach reaches was spreading.undone;
        placed = λ n in_tree unit placed. elim (cases_eq n node) [
          | inl same ↦ ap is_some (ap (step_in (set steps node (Some turn.last))) same ∙ at)
          | inr apart ↦ ap is_some (step_in-set_other steps (Some turn.last) apart)
              ∙ spreading.placed n in_tree unit placed
        ];
        right = λ n in_tree. elim (cases_eq n node) [
          | inl same ↦
              inl (subst (λ (m : ℕ). step_in (set steps node (Some turn.last)) m
              ≡ node_step tree turn.longer (step_in (set steps node (Some turn.last))) m) (sym same)
              (at ∙ sym (keeps_right tree turn spreading.places grows node turn.last rule_is)))
          | inr apart ↦ right_apart n in_tree apart grows
        ];
      }
    where
      right_apart : (n : ℕ) → IsNodeOf tree n → n ≢ node
          → AllGrow turn.last (step_in steps) (step_in (set steps node (Some turn.last)))
          → (step_in (set steps node (Some turn.last)) n
          ≡ node_step tree turn.longer (step_in (set steps node (Some turn.last))) n)
          ⊎ ((step_in (set steps node (Some turn.last)) n ≡ never)
          × ((among todo n || reads_some tree (drop next (log ++ node ∷ [])) n) ≡ true))
      right_apart n in_tree apart grows =
          let same : step_in (set steps node (Some turn.last)) n ≡ step_in steps n =
          step_in-set_other steps (Some turn.last) apart in
          let split : reads_some tree (drop next (log ++ node ∷ [])) n
          ≡ (reads_some tree (drop next log) n || reads_some tree (node ∷ []) n) =
          ap (λ xs. reads_some tree xs n) (drop-append-le next log (node ∷ []) spreading.high)
          ∙ reads_some-append tree (drop next log) (node ∷ []) n in
          elim (spreading.right n in_tree) [
            | inl fits ↦ elim (cases_Bool (among (below tree n) node)) [
              | inl reads_it ↦ elim (some_or_never (step_in steps n)) [
                | inl (number, is) ↦
                    inl (same ∙ is ∙ sym (keeps_right tree turn spreading.places grows n number (sym fits ∙ is)))
                | inr none ↦
                    inr (
                      same ∙ none,
                      or_right (among todo n) _ (split ∙ or_right (reads_some tree (drop next log) n) _
                          (or_left (among (below tree n) node) false reads_it)),
                    )
              ]
              | inr apart_from_it ↦
                  inl (same ∙ fits
                  ∙ sym (node_step-others tree turn.longer (step_in (set steps node (Some turn.last))) (step_in steps) n
                  node (λ m other. step_in-set_other steps (Some turn.last) other) apart_from_it))
            ]
            | inr waits ↦
                inr (
                  same ∙ waits.0,
                  elim (or_cases (among todo n) (reads_some tree (drop next log) n)
                      (sym (waits_apart apart) ∙ waits.1)) [
                        | inl listed ↦ or_left (among todo n) _ listed
                        | inr reads_it ↦ or_right (among todo n) _ (split
                            ∙ or_left (reads_some tree (drop next log) n) _ reads_it)
                      ],
                )
          ]

-- ---- a unit fails that had not failed

abbrev pub turn_of : List ℕ → ℕ → List Step → List ℕ → Turn
turn_of order unit steps log =
    record { order = order; longer = order ++ unit ∷ []; last = suc (length order); before = steps; front = log }

module _ {tree : FaultTree} (kept : IsTree tree) (order : List ℕ) (unit : ℕ) {steps : List Step} {log : List ℕ}
    (failed : AreFailed tree steps log) (is_unit : IsUnitOf tree unit) (holds : HoldsSteps tree order steps) where
  abbrev this_turn : Turn
  this_turn = turn_of order unit steps log

  unit_is_node : IsNodeOf tree unit
  unit_is_node = (is_unit.0, omega (arith, is_unit.1))

  is_low : is_above_units tree unit ≡ false
  is_low = le-ltb (unit_count tree) unit is_unit.1

  settled : (node : ℕ) → IsNodeOf tree node → step_in steps node ≡ node_step tree order (step_in steps) node
  settled = settled_table kept order steps holds

  low_table : (n number : ℕ) → step_in steps n ≡ Some number → number ≤ suc (length order)
  low_table n number is =
      elim (node_or_never tree steps failed.table failed.spare n) [
        | inl is_node ↦ let low = step-at_most tree order n number (sym (holds n is_node) ∙ is) in omega arith
        | inr none ↦ let e : Some number ≡ never = sym is ∙ none in absurd cc
      ]

  places_of_turn : AllGrow (suc (length order)) (place order) (place (order ++ unit ∷ []))
  places_of_turn = place-grows order unit

  same_table : AllGrow (suc (length order)) (step_in steps) (step_in steps)
  same_table = record { each = λ n. same_grows (suc (length order)) (step_in steps n) (low_table n) }

  rule_apart : {n : ℕ} → n ≢ unit → node_step tree (order ++ unit ∷ []) (step_in steps) n
      ≡ node_step tree order (step_in steps) n
  rule_apart {n} apart = node_step-place tree (step_in steps) n (order ++ unit ∷ []) order (place-other order apart)

  -- a unit that has a step already changes nothing
  pub failed_before : has_step steps unit ≡ true → HoldsSteps tree (order ++ unit ∷ []) steps
  failed_before has =
      fixed-step kept (order ++ unit ∷ []) (step_in steps) (λ n is_node. elim (cases_eq n unit) [
        | inl same ↦ elim (some_or_never (step_in steps n)) [
          | inl (number, is) ↦
              is ∙ sym (keeps_right_from tree this_turn places_of_turn same_table n
              number (sym (settled n is_node) ∙ is))
          | inr none ↦ let e : has_step steps unit ≡ false =
              ap (has_step steps) (sym same) ∙ ap is_some none in absurd cc
        ]
        | inr apart ↦ settled n is_node ∙ sym (rule_apart apart)
      ])

  pub first_fails : has_step steps unit ≡ false
      → IsSpreading tree (turn_of order unit steps log) (set steps unit (Some (suc (length order))))
      (log ++ unit ∷ []) [] (length log)
  first_fails has =
      let last : ℕ = suc (length order) in
      let reach : unit < length steps = omega (arith, failed.table, unit_is_node.1) in
      let fresh : step_in steps unit ≡ never = never_from (step_in steps unit) has in
      let grows : AllGrow last (step_in steps) (step_in (set steps unit (Some last))) =
      set_grows last steps unit reach fresh low_table in
      let at : step_in (set steps unit (Some last)) unit ≡ Some last = step_in-set_same steps unit (Some last) reach in
      let all : drop (length log) log ≡ [] = drop_all (length log) log (omega arith) in
      record {
        places = places_of_turn;
        settled = settled;
        low = omega arith;
        high = omega (arith, length_push log unit);
        front = take_at log (unit ∷ []) (length log) refl;
        grown = grows;
        undone =
            undone_more log log steps steps unit last reach (omega arith) fresh
            (λ n. ap (λ xs. step_without xs steps n) all);
        placed = λ n is_node low placed. elim (cases_eq n unit) [
          | inl same ↦ ap is_some (ap (step_in (set steps unit (Some last))) same ∙ at)
          | inr apart ↦
              ap is_some (step_in-set_other steps (Some last) apart ∙ settled n is_node)
              ∙ node_step-placed tree (step_in steps) n order low (ap is_some (sym (place-other order apart)) ∙ placed)
        ];
        right = λ n is_node. elim (cases_eq n unit) [
          | inl same ↦
              inl (subst (λ (m : ℕ). step_in (set steps unit (Some last)) m
              ≡ node_step tree (order ++ unit ∷ []) (step_in (set steps unit (Some last))) m) (sym same)
              (at
              ∙ sym (gets_last tree this_turn places_of_turn grows unit (sym (settled unit unit_is_node) ∙ fresh)
              (node_step-placed tree (step_in (set steps unit (Some last))) unit (order ++ unit ∷ []) is_low
              (place-itself order unit)))))
          | inr apart ↦ right_apart n is_node apart grows
        ];
      }
    where
      right_apart : (n : ℕ) → IsNodeOf tree n → n ≢ unit
          → AllGrow (suc (length order)) (step_in steps) (step_in (set steps unit (Some (suc (length order)))))
          → (step_in (set steps unit (Some (suc (length order)))) n
          ≡ node_step tree (order ++ unit ∷ []) (step_in (set steps unit (Some (suc (length order))))) n)
          ⊎ ((step_in (set steps unit (Some (suc (length order)))) n ≡ never)
          × ((among [] n || reads_some tree (drop (length log) (log ++ unit ∷ [])) n) ≡ true))
      right_apart n is_node apart grows =
          let last : ℕ = suc (length order) in
          let same : step_in (set steps unit (Some last)) n ≡ step_in steps n =
          step_in-set_other steps (Some last) apart in
          elim (cases_Bool (among (below tree n) unit)) [
            | inl reads_it ↦ elim (some_or_never (step_in steps n)) [
              | inl (number, is) ↦
                  inl (same ∙ is ∙ sym (keeps_right_from tree this_turn places_of_turn grows n number
                  (sym (settled n is_node) ∙ is)))
              | inr none ↦
                  inr (
                    same ∙ none,
                    ap (λ xs. reads_some tree xs n) (drop_at log (unit ∷ []) (length log) refl)
                        ∙ or_left (among (below tree n) unit) false reads_it,
                  )
            ]
            | inr apart_from_it ↦
                inl (same ∙ settled n is_node ∙ sym (rule_apart apart)
                ∙ sym (node_step-others tree (order ++ unit ∷ []) (step_in (set steps unit (Some last))) (step_in steps)
                n unit (λ m other. step_in-set_other steps (Some last) other) apart_from_it))
          ]

-- ---- the end

-- nothing is left to be looked at: the table has the steps under the longer order
pub spread_done : {tree : FaultTree} → IsTree tree → {turn : Turn} {steps : List Step} {log : List ℕ}
    → IsSpreading tree turn steps log [] (length log) → HoldsSteps tree turn.longer steps
spread_done {tree} kept {turn} {steps} {log} spreading =
    fixed-step kept turn.longer (step_in steps) (λ n is_node. elim (spreading.right n is_node) [
      | inl fits ↦ fits
      | inr waits ↦ let none : reads_some tree (drop (length log) log) n ≡ false =
          ap (λ xs. reads_some tree xs n) (drop_all (length log) log (omega arith)) in absurd cc
    ])

-- ---- what reads the next failed node is to be looked at

pub enter : {tree : FaultTree} {rows : List (List ℕ)} → AreReaders tree rows
    → {turn : Turn} {steps : List Step} {log : List ℕ} {next node : ℕ} → next < length log → node ≡ get_or log next node
    → IsSpreading tree turn steps log [] next → IsSpreading tree turn steps log (readers_in rows node) (next + 1)
enter {tree} {rows} readers {log} {next} {node} short is spreading =
    let split : drop next log ≡ node ∷ drop (next + 1) log =
    drop_more log next node short ∙ ap (λ n. n ∷ drop (next + 1) log) (sym is) in
    record {
      places = spreading.places;
      settled = spreading.settled;
      low = omega (arith, spreading.low);
      high = omega arith;
      front = spreading.front;
      grown = spreading.grown;
      undone = spreading.undone;
      placed = spreading.placed;
      right = λ n is_node. elim (spreading.right n is_node) [
        | inl fits ↦ inl fits
        | inr waits ↦
            inr (
              waits.0,
              elim (or_cases (among (below tree n) node) (reads_some tree (drop (next + 1) log) n)
                  (sym (ap (λ xs. reads_some tree xs n) split) ∙ waits.1)) [
                    | inl reads_it ↦ or_left (among (readers_in rows node) n) (reads_some tree (drop (next + 1) log) n)
                        (readers.listed node n is_node reads_it)
                    | inr later ↦ or_right (among (readers_in rows node) n) (reads_some tree (drop (next + 1) log) n)
                        later
                  ],
            )
      ];
    }

pub few_failed : {tree : FaultTree} {steps : List Step} {log : List ℕ} → AreFailed tree steps log
    → length log ≤ node_count tree
few_failed {tree} {log} kept = few_distinct (node_count tree) log kept.distinct kept.nodes

pub more_again : {tree : FaultTree} {before now after : Failures} → HaveMore tree before now → HaveMore tree now after
    → HaveMore tree before after
more_again more again =
    record { can = again.can; longer = omega (arith, more.longer, again.longer) }

-- ---- taking steps away again

pub without_more : (steps now : List Step) (nodes : List ℕ) (node : ℕ) → node < length now
    → ((n : ℕ) → step_in now n ≡ step_without nodes steps n)
    → (n : ℕ) → step_in (set now node never) n ≡ step_without (nodes ++ node ∷ []) steps n
without_more steps now nodes node reach before n =
    elim (cases_eq n node) [
      | inl same ↦
          let all : among (nodes ++ node ∷ []) n ≡ true =
          among-append nodes (node ∷ []) n ∙ or_right (among nodes n) (node == n || false)
          (or_left (node == n) false (eq-eqb node n (sym same))) in
          ap (step_in (set now node never)) same ∙ step_in-set_same now node never reach
          ∙ sym (cond-true (among (nodes ++ node ∷ []) n) never (step_in steps n) all)
      | inr apart ↦
          let none : (node == n || false) ≡ false = or_nothing (node == n) ∙ ne_eqb node n (λ e. apart (sym e)) in
          let same : among (nodes ++ node ∷ []) n ≡ among nodes n =
          among-append nodes (node ∷ []) n ∙ ap (λ b. among nodes n || b) none ∙ or_nothing (among nodes n) in
          step_in-set_other now never apart ∙ before n
          ∙ ap (λ (b : Bool). if b then never else step_in steps n) (sym same)
    ]

-- ---- the two ends of a push

pub nothing_failed : {tree : FaultTree} → IsTree tree → (order : List ℕ) (unit : ℕ) {steps : List Step} {log : List ℕ}
    → AreFailed tree steps log → IsUnitOf tree unit → HoldsSteps tree order steps
    → has_step steps unit ≡ true → HaveFailed tree (order ++ unit ∷ []) steps steps log log
nothing_failed kept order unit {steps} {log} failed is_unit holds has = record {
  holds = failed_before kept order unit failed is_unit holds has;
  front = take_all (length log) log (omega arith);
  undone = λ n. ap (λ xs. step_without xs steps n) (drop_all (length log) log (omega arith));
}

pub all_failed : {tree : FaultTree} → IsTree tree
    → (order : List ℕ) (unit : ℕ) {steps : List Step} {log : List ℕ} {steps' : List Step} {log' : List ℕ}
    → IsSpreading tree (turn_of order unit steps log) steps' log' [] (length log')
    → HaveFailed tree (order ++ unit ∷ []) steps steps' log log'
all_failed kept order unit spreading = record {
  holds = spread_done kept spreading;
  front = spreading.front;
  undone = spreading.undone;
}
