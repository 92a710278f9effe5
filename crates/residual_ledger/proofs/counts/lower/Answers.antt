use Rattle.std.proofs.Common.{◌≡◌, ◌-◌, ◌/◌, ◌<◌, ℕ, length, get_or, refl, arith}
use Rattle.std.proofs.lemmas.List.{get_or_read}
use Rattle.residual_ledger.specs.Kept.{block_size}
use Rattle.residual_ledger.proofs.BlockLemmas.{block_below, IsFalling, lowering-low, lowering-high, lowering-positive}
use Rattle.residual_ledger.proofs.counts.lower.Goals as goal
use Rattle.residual_ledger.proofs.counts.lower.Goals.{then-left-index, else-left-index}

pub overflow_sub-left : goal.overflow_sub-left
overflow_sub-left c =
    let row = c.args.row.now in
    let blocks = c.loop-place.blocks in
    let i = c.loop-place.place-index in
    lowering-positive (get_or row i 0) c.requires.rising (omega arith) refl c.requires.positive c.loop-place.invariant

pub loop-place-preserved : goal.loop-place-preserved
loop-place-preserved c =
    let row = c.args.row.now in
    let i = c.loop-place.place-index in
    let counts = c.loop-place.counts in
    let least = c.loop-place.blocks.least.items in
    let lowest = c.loop-place.blocks.lowest.items in
    let place : ℕ = get_or row i 0 in
    let left : ℕ = get_or counts place 0 - 1 in
    let positive : 0 < get_or counts place 0 =
    lowering-positive place c.requires.rising (omega arith) refl c.requires.positive c.loop-place.invariant in
    let falls : IsFalling row counts i place left = record {
      rising = c.requires.rising;
      short = omega arith;
      at = refl;
      there = omega (arith, c.requires.within i 0);
      is = omega arith;
    } in
    let there : place / block_size < length least = block_below place c.loop-place.invariant.blocks falls.there in
    let value : c.index.result.now ≡ get_or least (place / block_size) 0 =
    get_or_read least (place / block_size) c.index.result.now there c.index.ensures 0 in
    elim c.if-left-index.branch [
      | then-left-index w ↦ rw w.blocks-is (lowering-low falls (omega (arith, value)) c.loop-place.invariant)
      | else-left-index w ↦ rw w.blocks-is (lowering-high falls (omega (arith, value)) c.loop-place.invariant)
    ]
