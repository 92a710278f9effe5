use Rattle.std.proofs.Common.{◌≡◌, length, ◌+◌, ◌*◌, ◌≤◌, slice_index, bit_and, w64, arith, sym, ◌∙◌, ap, refl}
use Rattle.unit_sets.specs.Words.{passing_below}
use Rattle.unit_sets.proofs.unit_set.count_outside.Goals as goal
use Rattle.std.specs.Int.{bit_not}
use Rattle.std.proofs.Common.{count_ones}
use Rattle.std.proofs.Math.Facts.{Fits-lt-pow}
use Rattle.unit_sets.proofs.Passing.{length-passing_below-le}
use Rattle.unit_sets.proofs.WordSets.{only_in, count_more, length-outside}

pub loop-k-init : goal.loop-k-init
unfolding passing_below
loop-k-init c = refl

pub overflow_add-count : goal.overflow_add-count
overflow_add-count c =
    let next : length (passing_below (only_in c.args.words.now c.args.others.now) (64 * (c.loop-k.k + 1))) ≡ _ =
    count_more c.args.words.now c.args.others.now c.loop-k.k (Fits-lt-pow {w = w64} (c.type_inv.words c.loop-k.k))
    (Fits-lt-pow {w = w64} (c.type_inv.others c.loop-k.k)) in
    let few : length (passing_below (only_in c.args.words.now c.args.others.now) (64 * (c.loop-k.k + 1)))
    ≤ 64 * (c.loop-k.k + 1) = length-passing_below-le _ _ in
    omega (arith, c.loop-k.invariant)

pub loop-k-preserved : goal.loop-k-preserved
loop-k-preserved c =
    ap (λ x. x + count_ones (bit_and (slice_index c.args.words.now c.loop-k.k)
    (bit_not w64 (slice_index c.args.others.now c.loop-k.k)))) c.loop-k.invariant
    ∙ sym (count_more c.args.words.now c.args.others.now c.loop-k.k
    (Fits-lt-pow {w = w64} (c.type_inv.words c.loop-k.k)) (Fits-lt-pow {w = w64} (c.type_inv.others c.loop-k.k)))

pub returns : goal.returns
returns c =
    let all : c.loop-k.k ≡ 64 = omega arith in
    c.loop-k.invariant
    ∙ ap (λ k. length (passing_below (only_in c.args.words.now c.args.others.now) (64 * k))) all
    ∙ sym (length-outside c.args.words.now c.args.others.now)
