-- When one unit more leaves an order admissible, gate by gate, and that an admissible order's beginnings are
-- admissible.
use Rattle.std.proofs.Common.{◌≡◌, ◌≢◌, ℕ, zero, suc, ◌+◌, ◌-◌, ◌<◌, ◌≤◌, Bool, true, false, not, ◌==◌, ◌&&◌, ◌||◌}
use Rattle.std.proofs.Common.{List, [], ◌∷◌, ◌++◌, length, get_or, All, Some, None, is_some, nat_le, refl, arith, ap}
use Rattle.std.proofs.Common.{sym, subst, ◌∙◌, inl, inr}
use Rattle.std.specs.List.{list_all}
use Rattle.std.proofs.lemmas.Bool.{cases_Bool, cases_eq, or_left, or_right, and_from, and_parts, ne_eqb, eq-eqb, le-leb}
use Rattle.std.proofs.lemmas.Bool.{lt-leb, leb-true}
use Rattle.std.proofs.{lemmas.List.Elements.All-contains, lemmas.Slice.Zip.length-zip, lemmas.Slice.Zip.get_or-zip}
use Rattle.unit_sets.specs.UnitList.{among}
use Rattle.unit_sets.proofs.UnitListLemmas.{Contains-from_among}
use Rattle.fault_words.specs.declared.kind.GateKind.{GateKind}
use Rattle.fault_words.specs.declared.kind.GateKind.TheVariants.{And, Or, Votes, Pand, Por, Seq, Fdep, Csp, Wsp, Hsp}
use Rattle.fault_definitions.specs.Tree.{FaultTree, IsGateOf, gates, kind_of, inputs_of, unit_count, gate_count}
use Rattle.fault_definitions.specs.WellFormed.{IsTree}
use Rattle.fault_definitions.specs.Step.{Step, no_later, is_before, never_falls, place, step}
use Rattle.fault_definitions.specs.FailingOrder.{spares_wait, gate_admits, is_admissible}
use Rattle.replay_semantics.specs.Admission.{is_awaited, gate_awaits, gate_in_turn}
use Rattle.replay_semantics.specs.Growth.{Grows, AllGrow}
use Rattle.replay_semantics.proofs.GrowthLemmas.{grows-at_most}
use Rattle.replay_semantics.proofs.Places.{among-append, or_nothing, place-other, place-last, place_from-some}
use Rattle.replay_semantics.proofs.StepGrowth.{step-grows, step-at_most, place-stays}

-- ---- tests of all members

pub list_all-at : {X : Type 0} (p : X → Bool) (xs : List X) (k : ℕ) (d : X) → list_all p xs ≡ true → k < length xs
    → p (get_or xs k d) ≡ true
list_all-at p [] k d all short = absurd (omega arith)
list_all-at p (x ∷ xs) zero d all short = (and_parts (p x) (list_all p xs) all).0
list_all-at p (x ∷ xs) (suc k) d all short = list_all-at p xs k d (and_parts (p x) (list_all p xs) all).1 (omega arith)

pub list_all-from : {X : Type 0} (p : X → Bool) (xs : List X) (d : X)
    → ((k : ℕ) → k < length xs → p (get_or xs k d) ≡ true) → list_all p xs ≡ true
list_all-from p [] d each = refl
list_all-from p (x ∷ xs) d each =
    and_from (p x) (list_all p xs) (each 0 (omega arith)) (list_all-from p xs d (λ k short. each (suc k) (omega arith)))

pub list_all-among : (p : ℕ → Bool) (xs : List ℕ) (x : ℕ) → list_all p xs ≡ true → among xs x ≡ true → p x ≡ true
list_all-among p xs x all has =
    All-contains (λ y. p y ≡ true) xs x (λ k d short. list_all-at p xs k d all short) (Contains-from_among xs x has)

pub list_all-from_all : (p : ℕ → Bool) (xs : List ℕ) → All (λ x. p x ≡ true) xs → list_all p xs ≡ true
list_all-from_all p xs all = list_all-from p xs 0 (λ k short. all k 0 short)

-- ---- the gates by their numbers

module _ {tree : FaultTree} (kept : IsTree tree) (p : GateKind × List ℕ → Bool) where
  place_short : (gate : ℕ) → IsGateOf tree gate → gate - unit_count tree - 1 < length (gates tree)
  place_short gate (above, within) =
      let all : length tree.inputs ≡ gate_count tree = kept.inputs_all in
      omega (arith, length-zip tree.kinds tree.inputs)

  at_place : (at : ℕ) → at < length (gates tree)
      → get_or (gates tree) at (Fdep, []) ≡ (get_or tree.kinds at Fdep, get_or tree.inputs at [])
  at_place at short =
      let all : length tree.inputs ≡ gate_count tree = kept.inputs_all in
      let kinds_reach : at < length tree.kinds = omega (arith, length-zip tree.kinds tree.inputs) in
      let inputs_reach : at < length tree.inputs = omega (arith, length-zip tree.kinds tree.inputs) in
      get_or-zip tree.kinds tree.inputs at (Fdep, []) kinds_reach inputs_reach

  pub gates-at : list_all p (gates tree) ≡ true → (gate : ℕ) → IsGateOf tree gate
      → p (kind_of tree gate, inputs_of tree gate) ≡ true
  gates-at all gate is_gate =
      let at : ℕ = gate - unit_count tree - 1 in
      let short : at < length (gates tree) = place_short gate is_gate in
      subst (λ (g : GateKind × List ℕ). p g ≡ true) (at_place at short)
      (list_all-at p (gates tree) at (Fdep, []) all short)

  pub gates-from : ((gate : ℕ) → IsGateOf tree gate → p (kind_of tree gate, inputs_of tree gate) ≡ true)
      → list_all p (gates tree) ≡ true
  gates-from each =
      list_all-from p (gates tree) (Fdep, []) (λ at short.
      let gate : ℕ = unit_count tree + 1 + at in
      let all : length tree.inputs ≡ gate_count tree = kept.inputs_all in
      let is_gate : IsGateOf tree gate = (omega arith, omega (arith, length-zip tree.kinds tree.inputs)) in
      let back : gate - unit_count tree - 1 ≡ at = omega arith in
      subst (λ (g : GateKind × List ℕ). p g ≡ true) (sym (at_place at short))
      (subst (λ (n : ℕ). p (get_or tree.kinds n Fdep, get_or tree.inputs n []) ≡ true) back (each gate is_gate)))

-- ---- steps of one turn

back_step : (last : ℕ) (a a' b b' : Step) → Grows last a a' → Grows last b b' → ((n : ℕ) → b ≡ Some n → n < last)
    → no_later a' b' ≡ true → no_later a b ≡ true
back_step last a a' None b' g h low up = refl
back_step last a a' (Some n) None g h low up = absurd h
back_step last None None (Some n) (Some n') g h low up = absurd cc
back_step last None (Some m') (Some n) (Some n') g h low up =
    absurd (omega (arith, leb-true m' n' up, g, h.0, low n refl))
back_step last (Some m) None (Some n) (Some n') g h low up = absurd g
back_step last (Some m) (Some m') (Some n) (Some n') g h low up =
    le-leb m n (omega (arith, leb-true m' n' up, g.0, h.0))

-- a step at most the last place is before what fails now and what never fails
same_beside : (last n : ℕ) (a a' : Step) → Grows last a a' → n ≤ last → no_later (Some n) a ≡ no_later (Some n) a'
same_beside last n None None g low = refl
same_beside last n None (Some now) g low = sym (le-leb n now (omega (arith, g)))
same_beside last n (Some m) None g low = absurd g
same_beside last n (Some m) (Some now) g low = ap (nat_le n) (sym g.0)

-- what stands before a unit that fails last has failed before
before_last : (last : ℕ) (a a' : Step) → Grows last a a' → ((n : ℕ) → a ≡ Some n → n < last)
    → is_before a' (Some last) ≡ is_some a
before_last last None None g low = refl
before_last last None (Some now) g low = ap not (le-leb last now (omega (arith, g)))
before_last last (Some n) None g low = absurd g
before_last last (Some n) (Some now) g low = ap not (lt-leb last now (omega (arith, g.0, low n refl)))

-- ---- tests

and_assoc : (a b c : Bool) → (a && (b && c)) ≡ ((a && b) && c)
and_assoc true b c = refl
and_assoc false b c = refl

and_swap : (a b c d : Bool) → ((a && b) && (c && d)) ≡ ((a && c) && (b && d))
and_swap true true c d = refl
and_swap false b c d = refl
and_swap true false true d = refl
and_swap true false false d = refl

at_unit : (x rest more : Bool) → (x && (rest && (not more || x))) ≡ (rest && (false || x))
at_unit true true more = or_true (not more)
  where
    or_true : (a : Bool) → (a || true) ≡ true
    or_true true = refl
    or_true false = refl
at_unit true false more = refl
at_unit false true more = refl
at_unit false false more = refl

-- ---- one gate

module _ {f g : ℕ → Step} (order : List ℕ) (unit : ℕ) (fresh : among order unit ≡ false)
    (grow : AllGrow (suc (length order)) f g) (low : (node n : ℕ) → f node ≡ Some n → n < suc (length order)) where
  abbrev longer : List ℕ
  longer = order ++ unit ∷ []

  falls_back : (nodes : List ℕ) → never_falls g nodes ≡ true → never_falls f nodes ≡ true
  falls_back [] up = refl
  falls_back (node ∷ []) up = refl
  falls_back (node ∷ next ∷ nodes) up =
      let parts = and_parts (no_later (g node) (g next)) (never_falls g (next ∷ nodes)) up in
      and_from (no_later (f node) (f next)) (never_falls f (next ∷ nodes))
      (back_step (suc (length order)) (f node) (g node) (f next) (g next) (grow.each node) (grow.each next) (low next)
      parts.0)
      (falls_back (next ∷ nodes) parts.1)

  -- all left of the unit, wherever it stands after the first input
  abbrev all_left : List ℕ → Bool
  all_left [] = true
  all_left (input ∷ spares) = (not (among spares unit) || is_some (f input)) && all_left spares

  awaited-left : (failed : Bool) (inputs : List ℕ)
      → is_awaited f unit failed inputs ≡ ((not (among inputs unit) || failed) && all_left inputs)
  awaited-left failed [] = refl
  awaited-left failed (input ∷ inputs) =
      ap (λ b. (not (input == unit) || failed) && b) (awaited-left (failed && is_some (f input)) inputs)
      ∙ tests (input == unit) (among inputs unit) failed (is_some (f input)) (all_left inputs)
    where
      tests : (here later failed has left : Bool) → ((not here || failed) && ((not later || (failed && has)) && left))
          ≡ ((not (here || later) || failed) && ((not later || has) && left))
      tests true true true has left = refl
      tests true true false has left = refl
      tests true false true has left = refl
      tests true false false has left = refl
      tests false true true has left = refl
      tests false true false has left = refl
      tests false false failed has left = refl

  abbrev waits : (ℕ → Step) → List ℕ → ℕ → ℕ → Bool
  waits h w input spare = not (among w spare) || is_before (h input) (place w spare)

  some_place : (at : Step) → is_some at ≡ true → (n : ℕ) × (at ≡ Some n)
  some_place None some = absurd cc
  some_place (Some n) some = (n, refl)

  waits_same : (input : ℕ) {spare : ℕ} → spare ≢ unit → waits g longer input spare ≡ waits f order input spare
  waits_same input {spare} apart =
      let none : (unit == spare || false) ≡ false =
      or_nothing (unit == spare) ∙ ne_eqb unit spare (λ e. apart (sym e)) in
      let same : among longer spare ≡ among order spare =
      among-append order (unit ∷ []) spare ∙ ap (λ b. among order spare || b) none
      ∙ or_nothing (among order spare) in
      let there : place longer spare ≡ place order spare = place-other order apart in
      ap (λ b. not b || is_before (g input) (place longer spare)) same
      ∙ ap (λ (s : Step). not (among order spare) || is_before (g input) s) there
      ∙ elim (cases_Bool (among order spare)) [
        | inl has ↦
            let at : (n : ℕ) × (place order spare ≡ Some n) =
            some_place (place order spare) (place_from-some 1 order spare has) in
            let within : at.0 ≤ suc (length order) =
            grows-at_most (suc (length order)) at.0 (place order spare) (place order spare)
            ((place-stays order (suc (length order)) (omega arith)).each spare) at.1 in
            ap (λ (s : Step). not (among order spare) || is_before (g input) s) at.1
            ∙ ap (λ b. not (among order spare) || not b) (sym
            (same_beside (suc (length order)) at.0 (f input) (g input) (grow.each input) within))
            ∙ ap (λ (s : Step). not (among order spare) || is_before (f input) s) (sym at.1)
        | inr lacks ↦
            ap (λ b. not b || is_before (g input) (place order spare)) lacks
            ∙ ap (λ b. not b || is_before (f input) (place order spare)) (sym lacks)
      ]

  waits_unit : (input : ℕ) {spare : ℕ} → spare ≡ unit → waits g longer input spare ≡ is_some (f input)
  waits_unit input same =
      let here : among longer unit ≡ true =
      among-append order (unit ∷ []) unit ∙ or_right (among order unit) _
      (or_left (unit == unit) false (eq-eqb unit unit refl)) in
      ap (waits g longer input) same
      ∙ ap (λ b. not b || is_before (g input) (place longer unit)) here
      ∙ ap (is_before (g input)) (place-last order unit fresh)
      ∙ before_last (suc (length order)) (f input) (g input) (grow.each input) (low input)

  free_unit : (input : ℕ) {spare : ℕ} → spare ≡ unit → waits f order input spare ≡ true
  free_unit input same = ap (waits f order input) same ∙ ap (λ b. not b || is_before (f input) (place order unit)) fresh

  spares_next : (input : ℕ) (spares : List ℕ) → list_all (waits g longer input) spares
      ≡ (list_all (waits f order input) spares && (not (among spares unit) || is_some (f input)))
  spares_next input [] = refl
  spares_next input (spare ∷ spares) =
      let rest = spares_next input spares in
      elim (cases_eq spare unit) [
        | inl same ↦
            let here : (spare == unit) ≡ true = eq-eqb spare unit same in
            ap (λ b. b && list_all (waits g longer input) spares) (waits_unit input same)
            ∙ ap (λ b. is_some (f input) && b) rest
            ∙ at_unit (is_some (f input)) (list_all (waits f order input) spares) (among spares unit)
            ∙ ap (λ b. (b && list_all (waits f order input) spares) && (false || is_some (f input)))
            (sym (free_unit input same))
            ∙ ap (λ b. (waits f order input spare && list_all (waits f order input) spares)
            && (not (b || among spares unit) || is_some (f input))) (sym here)
        | inr apart ↦
            let there : (spare == unit) ≡ false = ne_eqb spare unit apart in
            ap (λ b. b && list_all (waits g longer input) spares) (waits_same input apart)
            ∙ ap (λ b. waits f order input spare && b) rest
            ∙ and_assoc (waits f order input spare) (list_all (waits f order input) spares)
            (not (among spares unit) || is_some (f input))
            ∙ ap (λ b. (waits f order input spare && list_all (waits f order input) spares)
            && (not (b || among spares unit) || is_some (f input))) (sym there)
      ]

  spares_wait-next : (inputs : List ℕ) → spares_wait g longer inputs ≡ (spares_wait f order inputs && all_left inputs)
  spares_wait-next [] = refl
  spares_wait-next (input ∷ spares) =
      ap (λ b. b && spares_wait g longer spares) (spares_next input spares)
      ∙ ap (λ b. (list_all (waits f order input) spares && (not (among spares unit) || is_some (f input))) && b)
      (spares_wait-next spares)
      ∙ and_swap (list_all (waits f order input) spares) (not (among spares unit) || is_some (f input))
      (spares_wait f order spares) (all_left spares)

  all_left-awaited : (inputs : List ℕ) → is_awaited f unit true inputs ≡ all_left inputs
  all_left-awaited inputs =
      awaited-left true inputs ∙ ap (λ b. b && all_left inputs) (or_true (not (among inputs unit)))
    where
      or_true : (a : Bool) → (a || true) ≡ true
      or_true true = refl
      or_true false = refl

  pub admits_back : (kind : GateKind) (inputs : List ℕ) → gate_admits g longer (kind, inputs) ≡ true
      → gate_admits f order (kind, inputs) ≡ true
  admits_back Seq inputs h = falls_back inputs h
  admits_back Csp inputs h =
      (and_parts (spares_wait f order inputs) (all_left inputs) (sym (spares_wait-next inputs) ∙ h)).0
  admits_back And inputs h = refl
  admits_back Or inputs h = refl
  admits_back (Votes least of) inputs h = refl
  admits_back Pand inputs h = refl
  admits_back Por inputs h = refl
  admits_back Fdep inputs h = refl
  admits_back Wsp inputs h = refl
  admits_back Hsp inputs h = refl

  pub awaits_from : (kind : GateKind) (inputs : List ℕ) → gate_admits g longer (kind, inputs) ≡ true
      → gate_awaits f unit kind inputs ≡ true
  awaits_from Csp inputs h =
      all_left-awaited inputs ∙ (and_parts (spares_wait f order inputs) (all_left inputs)
      (sym (spares_wait-next inputs) ∙ h)).1
  awaits_from Seq inputs h = refl
  awaits_from And inputs h = refl
  awaits_from Or inputs h = refl
  awaits_from (Votes least of) inputs h = refl
  awaits_from Pand inputs h = refl
  awaits_from Por inputs h = refl
  awaits_from Fdep inputs h = refl
  awaits_from Wsp inputs h = refl
  awaits_from Hsp inputs h = refl

  pub in_turn_from : (kind : GateKind) (inputs : List ℕ) → gate_admits g longer (kind, inputs) ≡ true
      → gate_in_turn g kind inputs ≡ true
  in_turn_from Seq inputs h = h
  in_turn_from Csp inputs h = refl
  in_turn_from And inputs h = refl
  in_turn_from Or inputs h = refl
  in_turn_from (Votes least of) inputs h = refl
  in_turn_from Pand inputs h = refl
  in_turn_from Por inputs h = refl
  in_turn_from Fdep inputs h = refl
  in_turn_from Wsp inputs h = refl
  in_turn_from Hsp inputs h = refl

  pub was_in_turn : (kind : GateKind) (inputs : List ℕ) → gate_admits f order (kind, inputs) ≡ true
      → gate_in_turn f kind inputs ≡ true
  was_in_turn Seq inputs h = h
  was_in_turn Csp inputs h = refl
  was_in_turn And inputs h = refl
  was_in_turn Or inputs h = refl
  was_in_turn (Votes least of) inputs h = refl
  was_in_turn Pand inputs h = refl
  was_in_turn Por inputs h = refl
  was_in_turn Fdep inputs h = refl
  was_in_turn Wsp inputs h = refl
  was_in_turn Hsp inputs h = refl

  pub admits_next : (kind : GateKind) (inputs : List ℕ) → gate_admits f order (kind, inputs) ≡ true
      → gate_awaits f unit kind inputs ≡ true → gate_in_turn g kind inputs ≡ true
      → gate_admits g longer (kind, inputs) ≡ true
  admits_next Seq inputs h awaits turn = turn
  admits_next Csp inputs h awaits turn =
      spares_wait-next inputs ∙ and_from (spares_wait f order inputs) (all_left inputs) h
      (sym (all_left-awaited inputs) ∙ awaits)
  admits_next And inputs h awaits turn = refl
  admits_next Or inputs h awaits turn = refl
  admits_next (Votes least of) inputs h awaits turn = refl
  admits_next Pand inputs h awaits turn = refl
  admits_next Por inputs h awaits turn = refl
  admits_next Fdep inputs h awaits turn = refl
  admits_next Wsp inputs h awaits turn = refl
  admits_next Hsp inputs h awaits turn = refl

  awaited_elsewhere : (failed : Bool) (inputs : List ℕ) → among inputs unit ≡ false
      → is_awaited f unit failed inputs ≡ true
  awaited_elsewhere failed [] none = refl
  awaited_elsewhere failed (input ∷ inputs) none =
      either (input == unit) none (awaited_elsewhere (failed && is_some (f input)) inputs)
    where
      either : (test : Bool) → (test || among inputs unit) ≡ false
          → (among inputs unit ≡ false → is_awaited f unit (failed && is_some (f input)) inputs ≡ true)
          → ((not test || failed) && is_awaited f unit (failed && is_some (f input)) inputs) ≡ true
      either true h rest = absurd cc
      either false h rest = rest h

  pub awaits_elsewhere : (kind : GateKind) (inputs : List ℕ) → among inputs unit ≡ false
      → gate_awaits f unit kind inputs ≡ true
  awaits_elsewhere Csp inputs none = awaited_elsewhere true inputs none
  awaits_elsewhere Seq inputs none = refl
  awaits_elsewhere And inputs none = refl
  awaits_elsewhere Or inputs none = refl
  awaits_elsewhere (Votes least of) inputs none = refl
  awaits_elsewhere Pand inputs none = refl
  awaits_elsewhere Por inputs none = refl
  awaits_elsewhere Fdep inputs none = refl
  awaits_elsewhere Wsp inputs none = refl
  awaits_elsewhere Hsp inputs none = refl

-- An admissible order's beginnings are admissible.
pub admissible_before : (tree : FaultTree) → IsTree tree → (order : List ℕ) (unit : ℕ) → among order unit ≡ false
    → is_admissible tree (order ++ unit ∷ []) ≡ true → is_admissible tree order ≡ true
admissible_before tree kept order unit fresh admits =
    let g : ℕ → Step = step tree (order ++ unit ∷ []) in
    gates-from kept (gate_admits (step tree order) order) (λ gate is_gate.
    admits_back order unit fresh (step-grows tree order unit)
    (λ node n is. let low = step-at_most tree order node n is in omega arith) (kind_of tree gate)
    (inputs_of tree gate) (gates-at kept (gate_admits g (order ++ unit ∷ [])) admits gate is_gate))
