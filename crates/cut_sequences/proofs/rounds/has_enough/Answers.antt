use Rattle.std.proofs.Common.{◌<◌, ◌≤◌, All, length, subst, arith}
use Rattle.std.proofs.lemmas.List.{take_all}
use Rattle.cut_sequences.specs.declared.share.Work.{Work}
use Rattle.cut_sequences.proofs.RoundLemmas.{one_more, stopped_there}
use Rattle.cut_sequences.proofs.rounds.has_enough.Goals as goal
use Rattle.cut_sequences.proofs.rounds.has_enough.Goals.{else-work-stop-via-then-work-stop+else-total-stop}
use Rattle.cut_sequences.proofs.rounds.has_enough.Goals.{else-work-stop-via-else-work-stop}

pub loop-work-preserved : goal.loop-work-preserved
loop-work-preserved c =
    let short : c.loop-work.work-index < length c.args.works.now = omega arith in
    one_more c.args.stop.place c.loop-work.work-index c.args.works.now short c.work-item.is c.loop-work.invariant
    (elim c.else-work-stop.branch [
      | else-work-stop-via-then-work-stop+else-total-stop w ↦
          stopped_there c.args.stop c.loop-work.work-index c.args.works.now short c.work-item.is
          c.requires (omega (arith, w.total.ensures.value, w.if-total-stop.false))
      | else-work-stop-via-else-work-stop w ↦ omega (arith, w.if-work-stop.false)
    ])

pub returns-clause-none : goal.returns-clause-none
returns-clause-none c =
    let past : length c.args.works.now ≤ c.loop-work.work-index = omega arith in
    λ none. subst (All (λ (work : Work). c.args.stop.place ≤ work.next))
    (take_all c.loop-work.work-index c.args.works.now past) c.loop-work.invariant
