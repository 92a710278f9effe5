use Rattle.std.proofs.Common.{◌≡◌, ◌<◌, length, get_or, ap, arith}
use Rattle.std.proofs.lemmas.List.{get_or_read}
use Rattle.residual_ledger.proofs.BlockLemmas.{refreshed-same, refreshed-new}
use Rattle.residual_ledger.proofs.blocks.Blocks.refresh_between.Goals as goal
use Rattle.residual_ledger.proofs.blocks.Blocks.refresh_between.Goals.{then-counts-place, else-counts-place}

pub loop-block-preserved : goal.loop-block-preserved
loop-block-preserved c =
    let end = c.args.end in
    let counts = c.args.counts.now in
    let least = c.loop-block.self.least.items in
    let lowest = c.loop-block.self.lowest.items in
    let block = c.loop-block.block in
    let there : block < length least = omega (arith, c.requires.inside, c.loop-block.auto.block) in
    let there' : block < length lowest = omega (arith, c.loop-block.invariant.long) in
    let place : c.index-place.result.now ≡ get_or lowest block 0 =
    get_or_read lowest block c.index-place.result.now there' c.index-place.ensures 0 in
    let value : c.index-least.result.now ≡ get_or least block 0 =
    get_or_read least block c.index-least.result.now there c.index-least.ensures 0 in
    let near = c.loop-block.invariant.near block there in
    elim c.if-counts-place.branch [
      | then-counts-place w ↦ rw w.self-is (refreshed-new there w.lowest_again-place.ensures c.loop-block.invariant)
      | else-counts-place w ↦ rw w.self-is (refreshed-same
          (omega (arith, value, ap (λ p. get_or counts p 0) place, w.if-counts-place.false)) c.loop-block.invariant)
    ]
