use Rattle.std.proofs.Common.{◌≡◌, ◌∙◌, List, ap, arith}
use Rattle.std.specs.List.{sum_by}
use Rattle.std.proofs.lemmas.Result.{err_from_is_err_and}
use Rattle.cut_sequences.specs.declared.share.Work.{Work}
use Rattle.cut_sequences.specs.Working.{HasStopped, HaveWorked, orders_of_work}
use Rattle.cut_sequences.proofs.RoundLemmas.{round_over, have_worked, works_le}
use Rattle.cut_sequences.proofs.rounds.round.Goals as goal

pub returns-in_err-works-clause-limit : goal.returns-in_err-works-clause-limit
returns-in_err-works-clause-limit g c =
    let p = err_from_is_err_and c.from_residual-in_err-works.result c.from_residual-in_err-works.ensures.1 in
    rw (p.1, p.2) (λ limit. round_over c.args.stop c.in_ok-answers_of.field-0.items
    c.requires.at_work c.in_ok-answers_of.ensures.all c.in_ok-answers_of.ensures.each
    (c.in_err-works.ensures.limit limit))

pub returns-then-orders_so_far-gt-ORDER_LIMIT-clause-limit : goal.returns-then-orders_so_far-gt-ORDER_LIMIT-clause-limit
returns-then-orders_so_far-gt-ORDER_LIMIT-clause-limit g c =
    let later : List Work = c.in_ok-works.works.items in
    let have : HaveWorked (HasStopped c.args.stop) c.args.sets c.args.works.items later =
    have_worked c.args.stop c.in_ok-answers_of.field-0.items c.requires.at_work
    c.in_ok-answers_of.ensures.all c.in_ok-answers_of.ensures.each later c.in_ok-works.ensures.works in
    let total : c.orders_so_far.result ≡ sum_by orders_of_work later =
    c.orders_so_far.ensures ∙ ap (sum_by orders_of_work) c.as_slice.ensures.value in
    λ limit. omega (arith, total, works_le have.at_work)

pub returns-clause-worked : goal.returns-clause-worked
returns-clause-worked g c =
    have_worked c.args.stop c.in_ok-answers_of.field-0.items c.requires.at_work
    c.in_ok-answers_of.ensures.all c.in_ok-answers_of.ensures.each c.in_ok-works.works.items
    c.in_ok-works.ensures.works
