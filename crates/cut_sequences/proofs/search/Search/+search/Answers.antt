use Rattle.std.proofs.Common.{◌≡◌, ℕ, List, ◌++◌, ◌+◌, ◌<◌, length, get_or, false, append-nil, refl, ◌∙◌, ap, sym}
use Rattle.std.proofs.Common.{subst, arith, rules}
use Rattle.std.proofs.{lemmas.Bool.not-true, lemmas.List.get_or_read, lemmas.Result.err_from_is_err_and}
use Rattle.fault_definitions.specs.FailingOrder.{is_admissible}
use Rattle.cut_sequences.specs.{declared.search.Search.Search, Orders.IsOver}
use Rattle.cut_sequences.proofs.GoingLemmas.{pruned, is_unit, is_fresh, can_next, due_next, can_still, gone_all}
use Rattle.cut_sequences.proofs.GoingLemmas.{gone_more, gone_over}
use Rattle.cut_sequences.proofs.search.Search.+search.Goals as goal

pub fail_at-push-pushed-requires-clause-unit : goal.fail_at-push-pushed-requires-clause-unit
fail_at-push-pushed-requires-clause-unit t c =
    let before : Search = c.args.self.now in
    is_unit c.args.i c.requires.can c.requires.within
    (get_or_read before.left.items c.args.i c.remove-unit.result c.requires.within c.remove-unit.ensures.value 0)

pub fail_at-push-pushed-requires-clause-fresh : goal.fail_at-push-pushed-requires-clause-fresh
fail_at-push-pushed-requires-clause-fresh t c =
    let before : Search = c.args.self.now in
    is_fresh c.args.i c.requires.can c.requires.within
    (get_or_read before.left.items c.args.i c.remove-unit.result c.requires.within c.remove-unit.ensures.value 0)

pub fail_at-go_on-requires : goal.fail_at-go_on-requires
fail_at-go_on-requires t c =
    let before : Search = c.args.self.now in
    let is : c.remove-unit.result ≡ get_or before.left.items c.args.i 0 =
    get_or_read before.left.items c.args.i c.remove-unit.result c.requires.within c.remove-unit.ensures.value 0 in
    let next : Search =
    record { replay = c.push-pushed.new.self; left = c.remove-unit.new.self; orders = before.orders } in (
      search rules,
      (
        can_next c.args.i c.requires.can c.requires.within is next
            c.push-pushed.ensures.tree c.push-pushed.ensures.order c.remove-unit.ensures.items c.requires.can.few,
        (c.push-pushed.ensures.admissible, c.push-pushed.ensures.top_failed),
      ),
    )

pub fail_at-returns-in_err-go_on : goal.fail_at-returns-in_err-go_on
fail_at-returns-in_err-go_on t c =
    let before : Search = c.args.self.now in
    let is : c.remove-unit.result ≡ get_or before.left.items c.args.i 0 =
    get_or_read before.left.items c.args.i c.remove-unit.result c.requires.within c.remove-unit.ensures.value 0 in
    let next : Search =
    record { replay = c.push-pushed.new.self; left = c.remove-unit.new.self; orders = before.orders } in
    let p = err_from_is_err_and c.from_residual.result c.from_residual.ensures.1 in
    rw (p.1, p.2) (
      tt,
      subst (λ (l : List (List ℕ)). IsOver (length before.orders + length l) c.in_err-go_on.field-0.0)
          (due_next c.args.i c.requires.can c.requires.within is next
          c.push-pushed.ensures.tree c.push-pushed.ensures.order c.remove-unit.ensures.items) c.in_err-go_on.ensures.1,
    )

pub go_on-returns-then-not-pushed : goal.go_on-returns-then-not-pushed
go_on-returns-then-not-pushed t c =
    let before : Search = c.args.self.now in
    let lacks : is_admissible before.replay.tree before.replay.order ≡ false =
    sym c.requires.admissible ∙ not-true c.args.pushed.admissible c.if-not-pushed.true in (
      record { replay = refl; left = refl },
      (
        sym (ap (λ (l : List (List ℕ)). before.orders ++ l) (pruned c.requires.can.units lacks)
            ∙ append-nil before.orders),
        c.requires.can.few,
      ),
    )

pub go_through-fail_at-requires : goal.go_through-fail_at-requires
go_through-fail_at-requires t c =
    let short : c.loop-i.i < length c.args.self.now.left.items = omega arith in (
      search rules,
      (
        can_still c.loop-i.invariant short c.requires.can,
        omega (arith, ap length c.loop-i.invariant.back.left, short),
      ),
    )

pub go_through-returns-in_err-fail_at : goal.go_through-returns-in_err-fail_at
go_through-returns-in_err-fail_at t c =
    let short : c.loop-i.i < length c.args.self.now.left.items = omega arith in
    let p = err_from_is_err_and c.from_residual.result c.from_residual.ensures.1 in
    rw (p.1, p.2) (
      tt,
      gone_over c.loop-i.invariant short c.in_err-fail_at.field-0.0 c.in_err-fail_at.ensures.1,
    )

pub go_through-loop-i-preserved : goal.go_through-loop-i-preserved
go_through-loop-i-preserved t c =
    let short : c.loop-i.i < length c.args.self.now.left.items = omega arith in
    gone_more c.loop-i.invariant short c.in_ok-fail_at.ensures.0 c.in_ok-fail_at.ensures.1.0 c.in_ok-fail_at.ensures.1.1

pub go_through-returns : goal.go_through-returns
go_through-returns t c = (
  c.loop-i.invariant.back,
  (
    gone_all c.loop-i.invariant c.requires.some (omega arith),
    c.loop-i.invariant.few,
  ),
)
