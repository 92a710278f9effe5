use Rattle.std.proofs.Common.{ℕ, List, subst, arith}
use Rattle.zdd_families.specs.Without.{IsWithout}
use Rattle.family_memory.specs.Memory.{family_in}
use Rattle.family_memory.proofs.After.{Gave-there, Went-nowhere, ended}
use Rattle.kept_answers.specs.declared.answers.Operation.TheVariants.{Without}
use Rattle.minimal_operations.proofs.{NothingLost.stays, Steps.failed}
use Rattle.minimal_operations.proofs.Telling.{kept, recalled, told_made}
use Rattle.minimal_operations.proofs.WithoutSteps.{lo_fewer, some_fewer, went_some, went_hi, hi_fewer, halves_can}
use Rattle.minimal_operations.proofs.WithoutSteps.{left_made}
use Rattle.minimal_operations.proofs.withouts.+without.Goals as goal
use Rattle.minimal_operations.proofs.withouts.+without.Goals.{strip_lowered-then-level+else-includes_none+in_default}
use Rattle.minimal_operations.proofs.withouts.+without.Goals.{strip_lowered-else-level}

pub without-returns-in-Some-clause-gives : goal.without-returns-in-Some-clause-gives
without-returns-in-Some-clause-gives t c =
    c.in-Some.ensures c.args.memory.now
    (record { sound = c.is_sound.ensures; first = c.requires.has_a; second = c.requires.has_b })

pub strip_lowered-returns-then-includes_none : goal.strip_lowered-returns-then-includes_none
strip_lowered-returns-then-includes_none t c = stays c.requires.has (c.includes_none.ensures c.if-includes_none.true)

pub strip_lowered-returns-in-Some : goal.strip_lowered-returns-in-Some
strip_lowered-returns-in-Some t c =
    let held = c.args.memory.now in
    let serves = c.lowered-part.ensures.serves in
    let gave = c.in-Some.ensures held (record {
      sound = c.requires.has.sound;
      first = c.requires.has.first;
      second = serves.has;
    }) in
    Gave-there gave.went.sound gave.has (serves.same (family_in held c.in-Some.end) gave.is)

pub strip_lowered-returns : goal.strip_lowered-returns
strip_lowered-returns t c =
    let held = c.args.memory.now in
    let all = family_in held c.args.a in
    let serves : (left : List (List ℕ)) → IsWithout all (family_in held c.if-level.part) left
    → IsWithout all (family_in held c.args.b) left =
    elim c.if-level.branch [
      | strip_lowered-then-level+else-includes_none+in_default w ↦ λ left is.
          w.lowered-part.ensures.serves.same left (subst (λ r. IsWithout all (family_in held r) left) w.part-is is)
      | strip_lowered-else-level w ↦ λ left is. subst (λ r. IsWithout all (family_in held r) left) w.part-is is
    ] in
    ended c.strip_nodes.new.memory (Went-nowhere c.requires.has.sound)
    (IsWithout all (family_in held c.if-level.part)) (IsWithout all (family_in held c.args.b)) c.strip_nodes.result
    serves c.strip_nodes.ensures

pub strip_nodes-returns-then-includes_none : goal.strip_nodes-returns-then-includes_none
strip_nodes-returns-then-includes_none t c =
    stays c.requires.nodes.has (c.includes_none.ensures c.if-includes_none.true)

pub strip_nodes-returns-in-Some-recall : goal.strip_nodes-returns-in-Some-recall
strip_nodes-returns-in-Some-recall t c =
    recalled Without c.args.a c.args.b c.requires.nodes.has.sound c.in-Some-recall.ensures

pub strip_nodes-remember-requires : goal.strip_nodes-remember-requires
strip_nodes-remember-requires t c =
    told_made Without c.args.a c.args.b c.requires.nodes.has c.in_ok-left.ensures

pub strip_nodes-returns : goal.strip_nodes-returns
strip_nodes-returns t c = kept c.remember.ensures c.in_ok-left.ensures

pub strip_halves-without-requires : goal.strip_halves-without-requires
strip_halves-without-requires t c =
    let fewer = lo_fewer c.requires c.parts-one.ensures c.half_at-other.ensures in
    (omega (arith, fewer), (c.parts-one.ensures.has_lo, c.half_at-other.ensures.has_lo))

pub strip_halves-without-requires-2 : goal.strip_halves-without-requires-2
strip_halves-without-requires-2 t c =
    let gave = c.in_ok-lo.ensures.gives in
    let fewer = some_fewer c.requires c.parts-one.ensures c.half_at-other.ensures gave in
    let longer = gave.went.longer in
    let has = c.parts-one.ensures.has_hi in
    let has' = c.half_at-other.ensures.has_hi in
    (omega (arith, fewer), (omega (arith, longer, has), omega (arith, longer, has')))

pub strip_halves-without-requires-3 : goal.strip_halves-without-requires-3
strip_halves-without-requires-3 t c =
    let one = c.parts-one.ensures in
    let other = c.half_at-other.ensures in
    let fewer = hi_fewer c.requires one other c.in_ok-lo.ensures.gives c.in_ok-some.ensures.gives in
    let longer = (went_some c.requires one other c.in_ok-lo.ensures.gives c.in_ok-some.ensures.gives).longer in
    let has' = other.has_lo in
    (omega (arith, fewer), (c.in_ok-some.ensures.gives.has, omega (arith, longer, has')))

pub strip_halves-make_or_known-requires : goal.strip_halves-make_or_known-requires
strip_halves-make_or_known-requires t c =
    let one = c.parts-one.ensures in
    let other = c.half_at-other.ensures in
    let lo = c.in_ok-lo.ensures.gives in
    let some = c.in_ok-some.ensures.gives in
    let hi = c.in_ok-hi.ensures.gives in
    let longer = (went_hi c.requires one other lo some hi).longer in
    let has = c.requires.nodes.has.first in
    record {
      has_known = omega (arith, longer, has);
      inner = c.requires.nodes.first;
      node = halves_can c.requires one other lo some hi;
    }

pub strip_halves-returns-in_err-some : goal.strip_halves-returns-in_err-some
strip_halves-returns-in_err-some t c =
    failed _ _ c.from_residual-in_err-some.result c.from_residual-in_err-some.ensures.1 c.in_ok-lo.ensures.gives.went
    c.in_err-some.ensures.spent

pub strip_halves-returns-in_err-hi : goal.strip_halves-returns-in_err-hi
strip_halves-returns-in_err-hi t c =
    failed _ _ c.from_residual-in_err-hi.result c.from_residual-in_err-hi.ensures.1
    (went_some c.requires c.parts-one.ensures c.half_at-other.ensures c.in_ok-lo.ensures.gives
    c.in_ok-some.ensures.gives) c.in_err-hi.ensures.spent

pub strip_halves-returns : goal.strip_halves-returns
strip_halves-returns t c =
    left_made c.requires c.parts-one.ensures c.half_at-other.ensures c.in_ok-lo.ensures.gives
    c.in_ok-some.ensures.gives c.in_ok-hi.ensures.gives c.make_or_known.new.memory c.make_or_known.result
    c.make_or_known.ensures
