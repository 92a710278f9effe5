use Rattle.std.proofs.Common.{◌∙◌, ap, length, refl, sym}
use Rattle.fault_definitions.specs.Tree.{ranked}
use Rattle.fault_model.specs.TreeTables.{HoldsLists}
use Rattle.fault_model.proofs.TreeLemmas.{dependents_below, parts_lists, made_holds, made_is, table_for}
use Rattle.fault_model.proofs.tree.Tree.new.Goals as goal

pub over-requires-2 : goal.over-requires-2
over-requires-2 c = (
  ranked c.args.parts c.requires.0,
  c.requires.1,
  rw c.as_slice-3.ensures.value (parts_lists c.args.parts c.requires.0 c.requires.1
      (table_for c.args.parts c.requires.0 refl c.as_slice-units.ensures.items
      c.as_slice.ensures.items c.as_slice-2.ensures.items c.in_ok-table.ensures) c.in_ok-below.ensures),
)

pub invariant_of-result : goal.invariant_of-result
invariant_of-result c =
    let table =
    table_for c.args.parts c.requires.0 refl c.as_slice-units.ensures.items
    c.as_slice.ensures.items c.as_slice-2.ensures.items c.in_ok-table.ensures in
    let lists : HoldsLists (ranked c.args.parts c.requires.0) c.as_slice-3.result.now =
    rw c.as_slice-3.ensures.value (parts_lists c.args.parts c.requires.0 c.requires.1 table c.in_ok-below.ensures) in
    made_holds c.args.parts c.requires.0 c.requires.1 table c.in_ok-below.ensures
    (c.in_ok-ranking.ensures.ranks (ranked c.args.parts c.requires.0) c.requires.1 lists)
    (c.in_ok-ranking.ensures.order (ranked c.args.parts c.requires.0) c.requires.1 lists) refl

pub over-requires-clause-dependents : goal.over-requires-clause-dependents
over-requires-clause-dependents c =
    dependents_below c.args.parts c.requires.0 refl c.as_slice-units.ensures.items c.as_slice.ensures.items
    c.as_slice-2.ensures.items c.requires.1

pub over-requires-clause-inputs : goal.over-requires-clause-inputs
over-requires-clause-inputs c =
    ap length c.as_slice-2.ensures.items ∙ c.requires.1.inputs_all ∙ sym (ap length c.as_slice.ensures.items)

pub returns : goal.returns
returns c =
    made_is c.args.parts c.requires.0 c.requires.1
    (table_for c.args.parts c.requires.0 refl c.as_slice-units.ensures.items
    c.as_slice.ensures.items c.as_slice-2.ensures.items c.in_ok-table.ensures) c.in_ok-below.ensures
    c.in_ok-ranking.ranking.ranks.items
