use Rattle.std.proofs.Common.{◌≡◌, get_or, arith}
use Rattle.std.proofs.lemmas.List.{get_or_read}
use Rattle.zdd_families.specs.Least.{IsLeastProductOfAll}
use Rattle.family_memory.proofs.After.{Went-nowhere}
use Rattle.minimal_operations.proofs.{Answering.spent_of, Steps.failed}
use Rattle.many_families.specs.Lists.{families}
use Rattle.many_families.proofs.{Lists.product_begun, ManySteps.multiplied_more, ManySteps.still_member}
use Rattle.many_families.proofs.many.product_of_all.Goals as goal

pub loop-place-init : goal.loop-place-init
loop-place-init c = record {
  went = Went-nowhere c.is_sound.ensures;
  has = let few = c.is_sound.ensures.terminals in omega arith;
  made = product_begun c.args.list.now c.is_sound.ensures;
}

pub product_by_splitting-requires-clause-has_b : goal.product_by_splitting-requires-clause-has_b
product_by_splitting-requires-clause-has_b c =
    let inv = c.loop-place.invariant in
    let list = c.args.list.now in
    let at : c.index-list-place.result ≡ get_or list c.loop-place.place 0 =
    get_or_read list c.loop-place.place c.index-list-place.result (omega arith) c.index-list-place.is 0 in
    still_member list c.loop-place.place c.loop-place.made c.is_sound.ensures inv.went c.requires inv.has (omega arith)
    at inv.made

pub loop-place-preserved : goal.loop-place-preserved
loop-place-preserved c =
    let inv = c.loop-place.invariant in
    let list = c.args.list.now in
    let at : c.index-list-place.result ≡ get_or list c.loop-place.place 0 =
    get_or_read list c.loop-place.place c.index-list-place.result (omega arith) c.index-list-place.is 0 in
    let gave = c.in_ok-made.ensures.gives in
    let more =
    multiplied_more list c.loop-place.place c.loop-place.made c.is_sound.ensures inv.went c.requires inv.has
    (omega arith) at inv.made gave in
    record { went = more.0; has = gave.has; made = more.1 }

pub returns-in_err-made-clause-spent : goal.returns-in_err-made-clause-spent
returns-in_err-made-clause-spent c =
    spent_of (IsLeastProductOfAll (families c.args.memory.now c.args.list.now)) c.args.memory.now
    c.product_by_splitting.new.memory c.from_residual.result
    (failed _ _ c.from_residual.result c.from_residual.ensures.1 c.loop-place.invariant.went
    c.in_err-made.ensures.spent)
