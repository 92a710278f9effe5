use Rattle.std.proofs.Common.{◌+◌, ◌-◌, ◌/◌, ◌<◌, List, ℕ, [], get_or, length, arith, subst, sym}
use Rattle.cut_sequences.proofs.{ShareLemmas.get_or_from_get, SizeLemmas.larger_from}
use Rattle.cut_sequences.proofs.listing.end_of_listed.Goals as goal

pub loop-low-preserved : goal.loop-low-preserved
loop-low-preserved c =
    let cuts : List (List ℕ) = c.args.cuts.now in
    let middle : ℕ = c.loop-low.low + (c.loop-low.high - c.loop-low.low) / 2 in
    let large : c.args.most < length (get_or cuts middle []) =
    subst (λ (cut : List ℕ). c.args.most < length cut)
    (sym (get_or_from_get cuts middle c.members.result.now c.members.ensures.value)) (omega arith) in
    record {
      order = omega arith;
      within = omega (arith, c.loop-low.invariant.within);
      larger = larger_from cuts middle c.args.most c.members.ensures.ordered.ordered large;
    }
