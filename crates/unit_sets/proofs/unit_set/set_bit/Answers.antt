use Rattle.std.proofs.Common.{◌/◌, ◌%◌, slice_index, w64, arith}
use Rattle.unit_sets.proofs.unit_set.set_bit.Goals as goal
use Rattle.std.proofs.{lemmas.Nat.mod_below, lemmas.Nat.Bits.bit_at_set_same, lemmas.Nat.Bits.bit_at_set_other}
use Rattle.unit_sets.proofs.WordSets.{has_bit-set}

pub returns : goal.returns
returns c =
    has_bit-set c.args.words.now c.args.number _ c.requires
    (bit_at_set_same w64 (slice_index c.args.words.now (c.args.number / 64)) (c.args.number % 64)
    (mod_below c.args.number 64 (omega arith)))
    (λ i h other. bit_at_set_other w64 (slice_index c.args.words.now (c.args.number / 64)) (c.args.number % 64)
    (mod_below c.args.number 64 (omega arith)) i other)
