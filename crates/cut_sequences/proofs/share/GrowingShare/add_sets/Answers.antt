use Rattle.std.proofs.Common.{◌<◌, length, arith}
use Rattle.std.proofs.lemmas.Result.{err_from_is_err_and}
use Rattle.unit_sets.proofs.CutOrderLemmas.{cut_at}
use Rattle.cut_sequences.specs.Dealing.{Share}
use Rattle.cut_sequences.specs.Working.{lists_due, whole, work_of}
use Rattle.cut_sequences.proofs.ShareLemmas.{few_sets, can_start_cut, share_more, share_over}
use Rattle.cut_sequences.proofs.share.GrowingShare.add_sets.Goals as goal

pub add_set-requires-clause-set : goal.add_set-requires-clause-set
add_set-requires-clause-set c =
    can_start_cut c.args.sets.cuts.now c.loop-next.next
    c.requires.grows.kept c.members.ensures.ordered c.requires.can.units c.members.ensures.value

pub add_set-requires-clause-some : goal.add_set-requires-clause-some
add_set-requires-clause-some c =
    (cut_at c.args.sets.cuts.now c.loop-next.next c.members.result.now c.members.ensures.ordered
    c.members.ensures.value).filled

pub returns-in_err-add_set : goal.returns-in_err-add_set
returns-in_err-add_set c =
    let short : c.loop-next.next < length c.args.sets.cuts.now = omega (arith, c.requires.can.place) in
    let all : Share =
    whole (lists_due c.args.sets) c.args.workers (work_of c.args.self.now c.args.from) in
    let p = err_from_is_err_and c.from_residual.result c.from_residual.ensures.1 in
    rw (p.1, p.2) (share_over c.args.sets c.args.workers c.loop-next.next c.members.result.now c.loop-next.self all
    c.requires.can.some short c.members.ensures.value c.loop-next.invariant.listed c.in_err-add_set.field-0.0
    c.loop-next.invariant.grows c.in_err-add_set.ensures)

pub loop-next-preserved : goal.loop-next-preserved
loop-next-preserved c =
    let short : c.loop-next.next < length c.args.sets.cuts.now = omega (arith, c.requires.can.place) in
    let all : Share =
    whole (lists_due c.args.sets) c.args.workers (work_of c.args.self.now c.args.from) in
    record {
      grows = c.in_ok-add_set.ensures.0;
      listed =
          share_more c.args.sets c.args.workers c.loop-next.next c.members.result.now c.loop-next.self all
          c.requires.can.some short c.members.ensures.value c.loop-next.invariant.listed c.add_set.new.self
          c.in_ok-add_set.ensures.1;
    }

pub overflow_add-next : goal.overflow_add-next
overflow_add-next c =
    omega (arith, few_sets c.args.sets.cuts.now c.members.ensures.ordered, c.requires.can.place, c.requires.can.few)
