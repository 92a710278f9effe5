-- The classes of faults of a text whose statements are read. Each is the list of its places in the order of the text.
use Rattle.std.specs.Prelude.{ℕ, Bool, true, false, nat_lt, ◌==◌, ◌&&◌, ◌||◌, not, List, [], ◌∷◌, ◌++◌, length, drop}
use Rattle.std.specs.Prelude.{map, filter, Option, Some, None, if◌then◌else◌, codes}
use Rattle.std.specs.{List.flat_map, List.list_any, Str.str_eq_ignore_ascii_case}
use Rattle.unit_sets.specs.Unit.{most_units}
use Rattle.fault_definitions.specs.{declared.parts.TheConstants.MOST_GATES, Tree.is_fdep_kind}
use Rattle.fault_words.specs.{declared.place.Place.Place, declared.kind.GateKind.GateKind}
use Rattle.fault_words.specs.{declared.kind.GateKind.TheVariants.Votes, Names.has_name, Names.same_name}
use Rattle.galileo_tree.specs.{declared.raw.Placed.Placed, declared.raw.RawAttribute.RawAttribute}
use Rattle.galileo_tree.specs.{declared.raw.RawBasic.RawBasic, declared.raw.Statement.Statement}
use Rattle.tree_check.specs.Said.{tops, definitions, uses, names}
use Rattle.tree_check.specs.Numbered.{is_gate, is_fdep_in, kinds, drops_fdeps, is_spare_kind, kept_inputs}
use Rattle.tree_check.specs.{declared.numbered.Numbered.Numbered, declared.numbered.NumberedGate.NumberedGate}

-- the first of some places
abbrev pub first : List Place → Option Place
first [] = None
first (place ∷ places) = Some place

-- whether a list has no items
abbrev pub is_empty : {X : Type 0} → List X → Bool
is_empty [] = true
is_empty (x ∷ xs) = false

-- ---- by the statements

-- there is no top statement; the place is the end of the text
abbrev pub missing_tops : List Statement → Place → List Place
missing_tops statements end = if is_empty (tops statements) then end ∷ [] else []

-- a top statement after the first, at its word
abbrev pub further_tops : List Statement → List Place
further_tops statements = map (λ top. top.word) (drop 1 (tops statements))

-- a definition of a name that an earlier one defines
abbrev pub repeats_after : List (List ℕ) → List Placed → List Place
repeats_after earlier [] = []
repeats_after earlier (definition ∷ definitions) =
    (if has_name earlier definition.name then definition.place ∷ [] else [])
    ++ repeats_after (earlier ++ definition.name ∷ []) definitions

-- each definition of a name that an earlier one defines, at the name
abbrev pub repeats : List Statement → List Place
repeats statements = repeats_after [] (definitions statements)

-- a name that is used and defined nowhere
abbrev pub undefined : List (List ℕ) → List Placed → List Place
undefined names uses = map (λ used. used.place) (filter (λ used. not (has_name names used.name)) uses)

-- an attribute `repl`, in any case, with a value other than `1`
abbrev pub is_replicated : RawAttribute → Bool
is_replicated raw =
    str_eq_ignore_ascii_case raw.attribute.word (codes "repl") && not (same_name raw.attribute.value (codes "1"))

-- each such attribute of the basic events, at its value
abbrev pub replicated : List RawBasic → List Place
replicated basics =
    flat_map (λ basic. map (λ raw. raw.value_place) (filter is_replicated basic.attributes)) basics

-- the basic events beyond the most that a tree may have, each at its name
abbrev pub units_beyond : List RawBasic → List Place
units_beyond basics = map (λ basic. basic.name.place) (drop most_units basics)

-- the gates beyond the most that a tree may have, each at its name
abbrev pub gates_beyond : List NumberedGate → List Place
gates_beyond gates = map (λ gate. gate.name) (drop MOST_GATES gates)

-- ---- by the gates

-- K is 0 or above N, or there are not exactly N inputs, repeats counted
abbrev pub wrong_vote : GateKind → ℕ → Bool
wrong_vote (Votes least of) inputs = least == 0 || nat_lt of least || not (of == inputs)
wrong_vote _ inputs = false

-- each gate with wrong votes, at its word
abbrev pub wrong_votes : List NumberedGate → List Place
wrong_votes gates = map (λ gate. gate.word) (filter (λ gate. wrong_vote gate.kind (length gate.inputs)) gates)

-- the places of the inputs that pass a test
abbrev pub places_where : (ℕ → Bool) → List Numbered → List Place
places_where test inputs = map (λ input. input.place) (filter (λ input. test input.number) inputs)

-- an `fdep` among the inputs of a gate other than `and` or `or`
abbrev pub dummies_in : (ℕ → Bool) → NumberedGate → List Place
dummies_in is_fdep gate = if drops_fdeps gate.kind then [] else places_where is_fdep gate.inputs

-- each `fdep` that is an input of a gate other than `and` or `or`, at that input
abbrev pub dummies : ℕ → List NumberedGate → List Place
dummies units gates = flat_map (dummies_in (is_fdep_in units (kinds gates))) gates

-- a gate other than `fdep` without inputs, once those of `and` and `or` that are `fdep` are dropped
abbrev pub reads_nothing : ℕ → List GateKind → NumberedGate → Bool
reads_nothing units kinds gate = not (is_fdep_kind gate.kind) && is_empty (kept_inputs units kinds gate)

-- each gate that reads nothing, at its word
abbrev pub inputless : ℕ → List NumberedGate → List Place
inputless units gates = map (λ gate. gate.word) (filter (reads_nothing units (kinds gates)) gates)

-- an `fdep` with fewer than two inputs
abbrev pub is_short_fdep : NumberedGate → Bool
is_short_fdep gate = is_fdep_kind gate.kind && nat_lt (length gate.inputs) 2

-- each `fdep` with fewer than two inputs, at its word
abbrev pub short_fdeps : List NumberedGate → List Place
short_fdeps gates = map (λ gate. gate.word) (filter is_short_fdep gates)

-- an input after the first that is a gate, of the gates of some kinds
abbrev pub gates_after_first : (GateKind → Bool) → ℕ → NumberedGate → List Place
gates_after_first is_kind units gate =
    if is_kind gate.kind then places_where (is_gate units) (drop 1 gate.inputs) else []

-- each dependent of an `fdep` that is a gate, at that input
abbrev pub dependent_gates : ℕ → List NumberedGate → List Place
dependent_gates units gates = flat_map (gates_after_first is_fdep_kind units) gates

-- each input of a spare gate after the first that is a gate, at that input
abbrev pub spare_gates : ℕ → List NumberedGate → List Place
spare_gates units gates = flat_map (gates_after_first is_spare_kind units) gates

-- ---- shared spares

-- an input of a spare gate, and whether it is the first
pub record SpareUse : Type 0 where
  pub input : Numbered
  pub is_first : Bool

-- the inputs of a spare gate after the first, as uses
abbrev pub later_uses : List Numbered → List SpareUse
later_uses inputs = map (λ input. record { input = input; is_first = false }) inputs

-- all the inputs of a spare gate, as uses
abbrev pub uses_of : List Numbered → List SpareUse
uses_of [] = []
uses_of (input ∷ inputs) = record { input = input; is_first = true } ∷ later_uses inputs

-- the uses by one gate: none, unless it is a spare gate
abbrev pub spare_uses_in : NumberedGate → List SpareUse
spare_uses_in gate = if is_spare_kind gate.kind then uses_of gate.inputs else []

-- the uses by all spare gates, in the order of the text
abbrev pub spare_uses : List NumberedGate → List SpareUse
spare_uses gates = flat_map spare_uses_in gates

-- two uses of one event, not both of them first inputs
abbrev pub clash : SpareUse → SpareUse → Bool
clash earlier later = earlier.input.number == later.input.number && not (earlier.is_first && later.is_first)

-- each use that clashes with one before it, at that input, where some earlier uses stand before them all
abbrev pub shared_after : List SpareUse → List SpareUse → List Place
shared_after earlier [] = []
shared_after earlier (later ∷ uses) =
    (if list_any (λ e. clash e later) earlier then later.input.place ∷ [] else [])
    ++ shared_after (later ∷ earlier) uses

-- each input of a spare gate that clashes with an earlier one, at that input
abbrev pub shared_spares : List NumberedGate → List Place
shared_spares gates = shared_after [] (spare_uses gates)

-- ---- the top event

-- each top event that is an `fdep`, at its name in the top statement
abbrev pub fdep_tops : ℕ → List NumberedGate → List Numbered → List Place
fdep_tops units gates tops = places_where (is_fdep_in units (kinds gates)) tops
