-- The gates of the made deck by numbers, and that no class of faults of gates occurs in them.
use Rattle.std.proofs.Common.{◌≡◌, ℕ, ◌+◌, ◌*◌, ◌%◌, ◌<◌, ◌≤◌, List, [], ◌∷◌, ◌++◌, map, sym, ap, ◌∙◌, arith}
use Rattle.std.specs.{Prelude.codes, List.range_with_len}
use Rattle.std.proofs.{lemmas.List.map-append, lemmas.Simd.map-map}
use Rattle.fault_words.specs.declared.kind.GateKind.{GateKind}
use Rattle.fault_words.specs.declared.kind.GateKind.TheVariants.{Or, Fdep}
use Rattle.tree_check.specs.Numbered.{numbered, numbered_gate, numbered_gates, numbered_tops}
use Rattle.fault_words.specs.Names.{number_in}
use Rattle.deck_reading.specs.Unplaced.{nowhere}
use Rattle.tree_maker.specs.Names.{gate_name, trigger_name, unit_name}
use Rattle.tree_maker.proofs.Ranges.{map-counts}
use Rattle.tree_maker.proofs.Counted.{number-a, number-b, number-c, number-gate, number-trigger, tree_names}
use Rattle.tree_maker.proofs.Statements.{fdep_raw, gates_made, group_raw, placed}

-- the type of a list's items
abbrev pub item_of : {X : Type 0} → List X → Type 0
item_of {X} xs = X

-- a number that stands at a place, and a gate with the numbers of its inputs
abbrev pub Numbered : Type 0
Numbered = item_of (numbered_tops [])

abbrev pub NumberedGate : Type 0
NumberedGate = item_of (numbered_gates [])

-- a number, and a gate of numbers, at no place
abbrev pub put : ℕ → Numbered
put number = record { number = number; place = nowhere }

abbrev pub numbered_by : GateKind → List ℕ → NumberedGate
numbered_by kind inputs = record { kind = kind; word = nowhere; name = nowhere; inputs = map put inputs }

module _ (count fdeps : ℕ) (kind : ℕ → GateKind) where
  -- the gate of the top event, of a group, and of a trigger
  abbrev pub top_numbered : NumberedGate
  top_numbered = numbered_by Or (map (λ group. 3 * count + 12 + group) (range_with_len 0 count))

  abbrev pub group_numbered : ℕ → NumberedGate
  group_numbered group = numbered_by (kind group) ((3 * group + 1) ∷ (3 * group + 2) ∷ (3 * group + 3) ∷ [])

  abbrev pub fdep_numbered : ℕ → NumberedGate
  fdep_numbered q = numbered_by Fdep ((3 * count + 1 + q % 10) ∷ (3 * (5 * q) + 2) ∷ [])

  abbrev pub made_gates : List NumberedGate
  made_gates = top_numbered ∷ (map group_numbered (range_with_len 0 count) ++ map fdep_numbered
      (range_with_len 0 fdeps))

  module _ (few : count ≤ 200) (few_fdeps : fdeps ≤ 200) (fits : (q : ℕ) → q < fdeps → 5 * q < count) where
    abbrev names : List (List ℕ)
    names = tree_names count fdeps kind few few_fdeps

    gate_of : (group : ℕ) → group < count → numbered_gate names (group_raw count fdeps kind group)
        ≡ group_numbered group
    gate_of group within =
        let a : number_in names (unit_name group (codes "a")) ≡ 3 * group + 1 =
        number-a count fdeps kind few few_fdeps group within in
        let b : number_in names (unit_name group (codes "b")) ≡ 3 * group + 2 =
        number-b count fdeps kind few few_fdeps group within in
        let c : number_in names (unit_name group (codes "c")) ≡ 3 * group + 3 =
        number-c count fdeps kind few few_fdeps group within in
        ap (λ n. numbered_by (kind group)
        (n ∷ number_in names (unit_name group (codes "b")) ∷ number_in names (unit_name group (codes "c")) ∷ [])) a
        ∙ ap (λ n. numbered_by (kind group) ((3 * group + 1) ∷ n ∷ number_in names (unit_name group (codes "c")) ∷ []))
        b
        ∙ ap (λ n. numbered_by (kind group) ((3 * group + 1) ∷ (3 * group + 2) ∷ n ∷ [])) c

    fdep_of : (q : ℕ) → q < fdeps → numbered_gate names (fdep_raw count fdeps kind q) ≡ fdep_numbered q
    fdep_of q within =
        let digit : q % 10 < 10 = omega arith in
        let trigger : number_in names (trigger_name (q % 10)) ≡ 3 * count + 1 + q % 10 =
        number-trigger count fdeps kind few few_fdeps (q % 10) digit in
        let b : number_in names (unit_name (5 * q) (codes "b")) ≡ 3 * (5 * q) + 2 =
        number-b count fdeps kind few few_fdeps (5 * q) (fits q within) in
        ap (λ n. numbered_by Fdep (n ∷ number_in names (unit_name (5 * q) (codes "b")) ∷ [])) trigger
        ∙ ap (λ n. numbered_by Fdep ((3 * count + 1 + q % 10) ∷ n ∷ [])) b

    top_inputs : map (numbered names) (map placed (map gate_name (range_with_len 0 count)))
        ≡ map put (map (λ group. 3 * count + 12 + group) (range_with_len 0 count))
    top_inputs =
        ap (map (numbered names)) (map-map placed gate_name (range_with_len 0 count))
        ∙ map-map (numbered names) (λ group. placed (gate_name group)) (range_with_len 0 count)
        ∙ map-counts (λ group. put (number_in names (gate_name group))) (λ group. put (3 * count + 12 + group)) 0 count
        (λ group low high. ap put (number-gate count fdeps kind few few_fdeps group (omega arith)))
        ∙ sym (map-map put (λ group. 3 * count + 12 + group) (range_with_len 0 count))

    pub gates_numbered : map (numbered_gate names) (gates_made count fdeps kind) ≡ made_gates
    gates_numbered =
        ap (λ l. (record { kind = Or; word = nowhere; name = nowhere; inputs = l }) ∷ map (numbered_gate names)
        (map (group_raw count fdeps kind) (range_with_len 0 count) ++ map (fdep_raw count fdeps kind)
        (range_with_len 0 fdeps))) top_inputs
        ∙ ap (λ l. top_numbered ∷ l)
        (map-append (numbered_gate names) (map (group_raw count fdeps kind) (range_with_len 0 count))
        (map (fdep_raw count fdeps kind) (range_with_len 0 fdeps))
        ∙ ap (λ l. l ++ map (numbered_gate names) (map (fdep_raw count fdeps kind) (range_with_len 0 fdeps)))
        (map-map (numbered_gate names) (group_raw count fdeps kind) (range_with_len 0 count)
        ∙ map-counts (λ group. numbered_gate names (group_raw count fdeps kind group)) group_numbered 0 count
        (λ group low high. gate_of group (omega arith)))
        ∙ ap (λ l. map group_numbered (range_with_len 0 count) ++ l)
        (map-map (numbered_gate names) (fdep_raw count fdeps kind) (range_with_len 0 fdeps)
        ∙ map-counts (λ q. numbered_gate names (fdep_raw count fdeps kind q)) fdep_numbered 0 fdeps
        (λ q low high. fdep_of q (omega arith))))
