use Rattle.std.proofs.Common.{◌≡◌, ◌+◌, ℕ, List, length, replicate, take, drop, take_at, ◌++◌, rules, arith}
use Rattle.unit_sets.specs.CutOrder.{weight_limit}
use Rattle.unit_sets.proofs.CutOrderLemmas.{cut_at as set_at}
use Rattle.residual_ledger.specs.Kept.{IsOneMore}
use Rattle.residual_ledger.proofs.{CutLemmas.cut_at-is, LedgerFacts.few_cuts}
use Rattle.residual_ledger.proofs.FillingLemmas.{counting-first, counting-le, counting-more}
use Rattle.residual_ledger.proofs.FillingLemmas.{known_members}
use Rattle.residual_ledger.proofs.holding.count_sets.Goals as goal

pub loop-place-init : goal.loop-place-init
loop-place-init c =
    let zeros : c.in_ok-sizes.sizes.items ≡ replicate (c.args.units + 1) 0 = search rules in
    rw zeros (counting-first c.args.units c.args.cuts.now)

pub count_members-requires-clause-rising : goal.count_members-requires-clause-rising
count_members-requires-clause-rising c =
    (set_at c.args.cuts.now c.loop-place.place c.members.result.now c.members.ensures.ordered
    c.members.ensures.value).rising

pub count_members-requires-clause-known : goal.count_members-requires-clause-known
count_members-requires-clause-known c =
    let cuts = c.args.cuts.now in
    let long : length c.as_mut_slice.result.now ≡ c.args.units + 1 = omega (arith, c.loop-place.invariant.long) in
    known_members c.args.units cuts c.loop-place.place c.as_mut_slice.result.now c.requires.known (omega arith)
    (cut_at-is cuts c.loop-place.place c.members.result.now c.members.ensures.value) long

pub count_members-requires-clause-room : goal.count_members-requires-clause-room
count_members-requires-clause-room c =
    let cuts = c.args.cuts.now in
    rw c.as_mut_slice.ensures.value (counting-le cuts weight_limit
    (omega (arith, few_cuts cuts, c.requires.ordered.within)) c.loop-place.invariant)

pub loop-place-preserved : goal.loop-place-preserved
loop-place-preserved c =
    let cuts = c.args.cuts.now in
    let place = c.loop-place.place in
    let new : List ℕ = c.count_members.new.sizes in
    let old : List ℕ = c.loop-place.sizes.items in
    let size = c.loop-place.sizes.len in
    let more : IsOneMore c.members.result.now old new =
    rw c.as_mut_slice.ensures.value at c.count_members.ensures in
    let long : length new ≡ size = omega (arith, more.long) in
    let whole : take size (new ++ drop (length new) old) ≡ new = take_at new (drop (length new) old) size long in
    rw whole (counting-more cuts
    (cut_at-is cuts place c.members.result.now c.members.ensures.value) more c.loop-place.invariant)
