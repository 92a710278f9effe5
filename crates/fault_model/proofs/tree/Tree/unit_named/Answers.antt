use Rattle.std.proofs.Common.{◌+◌, sym, arith}
use Rattle.std.specs.Prelude.{IsSome}
use Rattle.fault_model.proofs.NameLemmas.{unnamed, named_unit, some_named, none_named, none_where_some}
use Rattle.fault_model.proofs.tree.Tree.unit_named.Goals as goal

pub returns-in_err-place-clause-none : goal.returns-in_err-place-clause-none
returns-in_err-place-clause-none c =
    let told = c.unit_names.ensures in
    none_named c.from_residual.result _ c.from_residual.ensures
    (unnamed told.kept told.names c.args.name.now (sym c.in_err-place.ensures))

pub returns-clause-named : goal.returns-clause-named
returns-clause-named c =
    let told = c.unit_names.ensures in
    some_named c.new.result _ _ c.new.ensures.value (named_unit told.kept told.names c.args.name.now c.in_ok-place.place
    (sym c.in_ok-place.ensures))

pub returns-clause-none : goal.returns-clause-none
returns-clause-none c =
    let told = c.unit_names.ensures in
    let named =
    named_unit told.kept told.names c.args.name.now c.in_ok-place.place (sym c.in_ok-place.ensures) in
    let few = told.kept.few_units in
    let within = named.0.1 in
    let made : IsSome c.new.result = c.new.ensures.valid.1 (omega arith, omega arith) in
    none_where_some c.new.result _ made (λ all. all (c.in_ok-place.place + 1) named.0 named.1)

pub overflow_cast-place : goal.overflow_cast-place
overflow_cast-place c =
    let told = c.unit_names.ensures in
    let named =
    named_unit told.kept told.names c.args.name.now c.in_ok-place.place (sym c.in_ok-place.ensures) in
    let few = told.kept.few_units in
    let within = named.0.1 in omega (arith, few, within)

pub overflow_add-place : goal.overflow_add-place
overflow_add-place c =
    let told = c.unit_names.ensures in
    let named =
    named_unit told.kept told.names c.args.name.now c.in_ok-place.place (sym c.in_ok-place.ensures) in
    let few = told.kept.few_units in
    let within = named.0.1 in omega (arith, few, within)
