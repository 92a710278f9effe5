-- The tree that statements stand for doesn't hang on where they stand.
use Rattle.std.proofs.Common.{◌≡◌, ℕ, ◌<◌, List, [], ◌∷◌, length, map, refl, sym, ap, ◌∙◌, subst}
use Rattle.std.specs.Prelude.{slice_index}
use Rattle.std.proofs.lemmas.List.{length-map}
use Rattle.fault_words.specs.{declared.kind.GateKind.GateKind, declared.place.Place.Place}
use Rattle.fault_definitions.specs.Tree.{FaultTree}
use Rattle.galileo_tree.specs.{declared.raw.RawAttribute.RawAttribute, declared.raw.RawBasic.RawBasic}
use Rattle.galileo_tree.specs.{declared.raw.Statement.Statement, ReadTree.ReadTree}
use Rattle.tree_check.specs.{declared.fault.CheckCode.CheckCode, Said.basics, Said.definitions}
use Rattle.tree_check.specs.Checked.{NoneOf, Stands, after_cycles, before_cycles, places}
use Rattle.tree_check.specs.Numbered.{drops_fdeps, is_fdep_in, kept_inputs, kinds, numbered_definitions}
use Rattle.tree_check.specs.Numbered.{numbered_gates}
use Rattle.tree_check.specs.Numbered.{numbered_tops, unit_total}
use Rattle.tree_check.specs.TreeOf.{HasNoCycle, LeadsTo, first_number, input_lists, numbers, tree_of}
use Rattle.deck_reading.specs.Unplaced.{SaysAll, nowhere, said_tree, unplaced, unplaced_attribute, unplaced_name}
use Rattle.deck_reading.specs.Written.{WrittenStatement}
use Rattle.deck_reading.proofs.Anywhere.{Numbered, NumberedGate, all_basics, all_definitions, all_names}
use Rattle.deck_reading.proofs.Anywhere.{all_numbered_definitions, all_numbered_gates, all_numbered_tops, all_units}
use Rattle.deck_reading.proofs.Anywhere.{unplaced_basic, unplaced_number, unplaced_numbers}
use Rattle.deck_reading.proofs.Passing.{map_none, map_through}
use Rattle.deck_reading.proofs.PlaceFree.{away, class_aside, kept_aside, kinds_aside}

numbers_aside : (inputs : List Numbered) → numbers (map unplaced_number inputs) ≡ numbers inputs
numbers_aside inputs =
    let number = λ (input : Numbered). input.number in
    map_through number unplaced_number number (λ i. refl) inputs

inputs_aside : (units : ℕ) (gs : List NumberedGate) → input_lists units (map unplaced_numbers gs) ≡ input_lists units gs
inputs_aside units gs =
    let kept = λ (ks : List GateKind) (gate : NumberedGate). numbers (kept_inputs units ks gate) in
    let ks = kinds gs in
    ap (λ l. map (kept l) (map unplaced_numbers gs)) (kinds_aside gs)
    ∙ map_through (kept ks) unplaced_numbers (kept ks)
    (λ (gate : NumberedGate). ap numbers (kept_aside (drops_fdeps gate.kind) (is_fdep_in units ks) gate.inputs)
    ∙ numbers_aside (kept_inputs units ks gate)) gs

attributes_aside : (bs : List RawBasic)
    → map (λ (basic : RawBasic). map (λ (raw : RawAttribute). raw.attribute) basic.attributes) (map unplaced_basic bs)
    ≡ map (λ (basic : RawBasic). map (λ (raw : RawAttribute). raw.attribute) basic.attributes) bs
attributes_aside bs =
    let one = λ (raw : RawAttribute). raw.attribute in
    let all = λ (basic : RawBasic). map one basic.attributes in
    map_through all unplaced_basic all
    (λ (basic : RawBasic). map_through one unplaced_attribute one (λ a. refl) basic.attributes) bs

first_aside : (tops : List Numbered) → first_number (map unplaced_number tops) ≡ first_number tops
first_aside [] = refl
first_aside (top ∷ tops) = refl

module _ (ss : List Statement) where
  tree_aside : (ranks : List ℕ) → tree_of (map unplaced ss) ranks ≡ tree_of ss ranks
  tree_aside ranks =
      let names_are = all_names ss in
      let kinds_are = ap kinds (all_numbered_gates ss) ∙ kinds_aside (numbered_gates ss) in
      let inputs_are =
      ap (λ n. input_lists n (numbered_gates (map unplaced ss))) (all_units ss)
      ∙ ap (input_lists (unit_total ss)) (all_numbered_gates ss)
      ∙ inputs_aside (unit_total ss) (numbered_gates ss) in
      let attributes_are =
      ap (map (λ (basic : RawBasic). map (λ (raw : RawAttribute). raw.attribute) basic.attributes)) (all_basics ss)
      ∙ attributes_aside (basics ss) in
      let top_is = ap first_number (all_numbered_tops ss) ∙ first_aside (numbered_tops ss) in
      let same : tree_of (map unplaced ss) ranks ≡ tree_of ss ranks = λ i. record {
        names = names_are i;
        kinds = kinds_are i;
        inputs = inputs_are i;
        attributes = attributes_are i;
        top = top_is i;
        ranks = ranks;
      } in
      same

  -- a definition leads to itself, by the tree and the numbers of the definitions
  abbrev Cycles : FaultTree → List ℕ → ℕ → Type 0
  Cycles tree ns i = LeadsTo tree (slice_index ns i) (slice_index ns i)

  acyclic_aside : HasNoCycle (map unplaced ss) → HasNoCycle ss
  acyclic_aside acyclic = λ i within cyclic.
      let size : length (definitions (map unplaced ss)) ≡ length (definitions ss) =
      ap length (all_definitions ss) ∙ length-map (definitions ss) unplaced_name in
      let ns : numbers (numbered_definitions (map unplaced ss)) ≡ numbers (numbered_definitions ss) =
      ap numbers (all_numbered_definitions ss) ∙ numbers_aside (numbered_definitions ss) in
      acyclic i (subst (λ n. i < n) (sym size) within)
      (subst (λ l. Cycles (tree_of (map unplaced ss) []) l i) (sym ns)
      (subst (λ t. Cycles t (numbers (numbered_definitions ss)) i) (sym (tree_aside [])) cyclic))

module _ (ss : List Statement) (end : Place) where
  abbrev here : ReadTree
  here = record { statements = ss; end = end }

  abbrev aside : ReadTree
  aside = record { statements = map unplaced ss; end = nowhere }

  none_aside : (codes : List CheckCode) → NoneOf aside codes → NoneOf here codes
  none_aside [] none = tt
  none_aside (code ∷ codes) none =
      (map_none away (places here code) (sym (class_aside ss end code) ∙ none.0), none_aside codes none.1)

  stands_aside : {tree : FaultTree} → Stands aside tree → Stands here tree
  stands_aside {tree} stands = record {
    faultless = record {
      before = none_aside before_cycles stands.faultless.before;
      acyclic = acyclic_aside ss stands.faultless.acyclic;
      after = none_aside after_cycles stands.faultless.after;
    };
    is = stands.is ∙ tree_aside ss tree.ranks;
  }

-- statements that say what is written stand for the tree that is said
pub stands_anywhere : (read : ReadTree) (statements : List WrittenStatement) (tree : FaultTree)
    → SaysAll read.statements statements
    → Stands (said_tree statements) tree → Stands read tree
stands_anywhere read statements tree says stands =
    let tree_with = λ (l : List Statement). (let r : ReadTree = record { statements = l; end = nowhere } in r) in
    stands_aside read.statements read.end (subst (λ l. Stands (tree_with l) tree) (sym says) stands)
