use Rattle.std.proofs.Common.{[], arith}
use Rattle.std.proofs.lemmas.List.{length_push}
use Rattle.cut_sequences.proofs.RoundLemmas.{all_start, one_start_more}
use Rattle.cut_sequences.proofs.rounds.starts.Goals as goal

pub returns-clause-at_work : goal.returns-clause-at_work
returns-clause-at_work c =
    let works = c.loop-next.works.items in
    λ sets units. all_start units (omega (arith, c.requires.some, c.loop-next.invariant.many))
    (omega (arith, c.requires.few, c.loop-next.invariant.many)) c.loop-next.invariant.each

pub loop-next-preserved : goal.loop-next-preserved
loop-next-preserved c =
    let works = c.loop-next.works.items in
    rw (c.in_ok-push.ensures.items, c.new.ensures) record {
      many = omega (arith, length_push works (record { share = []; next = c.loop-next.next }));
      each = one_start_more works c.loop-next.invariant.many c.loop-next.invariant.each;
    }
