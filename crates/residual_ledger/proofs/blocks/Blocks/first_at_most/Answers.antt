use Rattle.std.proofs.Common.{◌≡◌, ◌*◌, ℕ, List, length, min, subst, arith}
use Rattle.residual_ledger.specs.Kept.{block_size, IsFirstBetween, IsFirstAtMost}
use Rattle.residual_ledger.proofs.BlockLemmas.{over_blocks}
use Rattle.residual_ledger.proofs.blocks.Blocks.first_at_most.Goals as goal

pub returns : goal.returns
returns c =
    let counts = c.args.counts.now in
    let least = c.args.self.now.least.items in
    let block = c.first_between-block.result in
    let from : c.min-from.result ≡ min (length counts) (block * block_size) = omega arith in
    let blocks : IsFirstAtMost least c.args.most block =
    subst (λ (l : List _). IsFirstAtMost l c.args.most block) c.as_slice-least.ensures.value
    c.first_between-block.ensures in
    over_blocks c.requires blocks
    (subst (λ (place : ℕ). IsFirstBetween counts place (length counts) c.args.most c.first_between.result) from
    c.first_between.ensures)
