use Rattle.std.proofs.Common.{arith}
use Rattle.zdd_families.specs.Least.{IsLeastUnion}
use Rattle.zdd_families.proofs.Ends.{least_union-swap}
use Rattle.kept_answers.specs.declared.answers.Operation.TheVariants.{Union}
use Rattle.minimal_operations.proofs.Telling.{kept, recalled, told_made}
use Rattle.minimal_operations.proofs.Steps.{failed, higher_lo_fewer, los_fewer}
use Rattle.minimal_operations.proofs.Swapping.{swapped}
use Rattle.minimal_operations.proofs.UnionSteps.{his_fewer, both_can, both_united, first_can, first_united}
use Rattle.minimal_operations.proofs.unions.+union.Goals as goal

pub union-returns-in-Some-clause-gives : goal.union-returns-in-Some-clause-gives
union-returns-in-Some-clause-gives t c =
    c.in-Some.ensures c.args.memory.now
    (record { sound = c.is_sound.ensures; first = c.requires.has_a; second = c.requires.has_b })

pub union-returns-in-Some-recall-clause-gives : goal.union-returns-in-Some-recall-clause-gives
union-returns-in-Some-recall-clause-gives t c =
    recalled Union c.args.a c.args.b c.is_sound.ensures c.in-Some-recall.ensures

pub union-remember-requires : goal.union-remember-requires
union-remember-requires t c =
    told_made Union c.args.a c.args.b
    (record { sound = c.is_sound.ensures; first = c.requires.has_a; second = c.requires.has_b }) c.in_ok-made.ensures

pub union-returns-clause-gives : goal.union-returns-clause-gives
union-returns-clause-gives t c = kept c.remember.ensures c.in_ok-made.ensures

pub unite_levels-returns-then-second-first : goal.unite_levels-returns-then-second-first
unite_levels-returns-then-second-first t c =
    swapped IsLeastUnion c.args.memory.now c.unite_above-then-second-first.new.memory c.args.a c.args.b
    c.unite_above-then-second-first.result least_union-swap c.unite_above-then-second-first.ensures

pub unite_both-union-requires : goal.unite_both-union-requires
unite_both-union-requires t c =
    let fewer = los_fewer c.requires c.parts-one.ensures c.parts-other.ensures in
    (omega (arith, fewer), (c.parts-one.ensures.has_lo, c.parts-other.ensures.has_lo))

pub unite_both-union-requires-2 : goal.unite_both-union-requires-2
unite_both-union-requires-2 t c =
    let fewer = his_fewer c.requires c.parts-one.ensures c.parts-other.ensures c.in_ok-lo.ensures.gives in
    let longer = c.in_ok-lo.ensures.gives.went.longer in
    let has = c.parts-one.ensures.has_hi in
    let has' = c.parts-other.ensures.has_hi in
    (omega (arith, fewer), (omega (arith, longer, has), omega (arith, longer, has')))

pub unite_both-make_rid-requires : goal.unite_both-make_rid-requires
unite_both-make_rid-requires t c =
    both_can c.requires c.parts-one.ensures c.parts-other.ensures c.in_ok-lo.ensures.gives c.in_ok-all.ensures.gives

pub unite_both-returns-in_err-all : goal.unite_both-returns-in_err-all
unite_both-returns-in_err-all t c =
    failed _ _ c.from_residual-in_err-all.result c.from_residual-in_err-all.ensures.1 c.in_ok-lo.ensures.gives.went
    c.in_err-all.ensures.spent

pub unite_both-returns : goal.unite_both-returns
unite_both-returns t c =
    both_united c.requires c.parts-one.ensures c.parts-other.ensures c.in_ok-lo.ensures.gives c.in_ok-all.ensures.gives
    c.make_rid.new.memory c.make_rid.result c.make_rid.ensures

pub unite_above-union-requires : goal.unite_above-union-requires
unite_above-union-requires t c =
    let fewer = higher_lo_fewer c.requires c.parts-one.ensures in
    (omega (arith, fewer), (c.parts-one.ensures.has_lo, c.requires.has.second))

pub unite_above-make_rid-requires : goal.unite_above-make_rid-requires
unite_above-make_rid-requires t c = first_can c.requires c.parts-one.ensures c.in_ok-lo.ensures.gives

pub unite_above-returns : goal.unite_above-returns
unite_above-returns t c =
    first_united c.requires c.parts-one.ensures c.in_ok-lo.ensures.gives c.make_rid.new.memory c.make_rid.result
    c.make_rid.ensures
