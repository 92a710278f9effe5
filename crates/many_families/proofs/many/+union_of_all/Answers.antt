use Rattle.std.proofs.Common.{◌/◌, length, subst}
use Rattle.std.proofs.lemmas.Result.{MatchResult-from_both}
use Rattle.zdd_families.specs.Least.{IsLeastOfAll}
use Rattle.family_memory.specs.Memory.{Gave}
use Rattle.minimal_operations.proofs.{Answering.gives_of, Answering.spent_of, Steps.failed}
use Rattle.many_families.specs.Lists.{families}
use Rattle.many_families.proofs.{Lists.few_united, ManySteps.halves_united, ManySteps.rest_from}
use Rattle.many_families.proofs.many.+union_of_all.Goals as goal

pub returns-then-list-lt2-clause-gives : goal.returns-then-list-lt2-clause-gives
returns-then-list-lt2-clause-gives t c =
    few_united c.args.list.now c.is_sound.ensures c.requires c.if-list-lt2.true c.first_of.ensures

pub returns-in_err-second-clause-spent : goal.returns-in_err-second-clause-spent
returns-in_err-second-clause-spent t c =
    spent_of (IsLeastOfAll (families c.args.memory.now c.args.list.now)) c.args.memory.now c.union_of_all-2.new.memory
    c.from_residual-in_err-second.result
    (failed _ _ c.from_residual-in_err-second.result c.from_residual-in_err-second.ensures.1
    c.in_ok-first.ensures.gives.went c.in_err-second.ensures.spent)

pub returns : goal.returns
returns t c =
    let s0 = c.args.memory.now in
    let list = c.args.list.now in
    let middle = length list / 2 in
    let second = c.in_ok-second.second in
    let both =
    halves_united list middle c.is_sound.ensures c.requires c.in_ok-first.ensures.gives
    (subst (λ l. Gave (IsLeastOfAll (families c.union_of_all.new.memory l)) c.union_of_all.new.memory
    c.union_of_all-2.new.memory second) (rest_from list middle) c.in_ok-second.ensures.gives) c.union.new.memory
    c.union.result
    (MatchResult-from_both c.union.result _ _ c.union.ensures.gives c.union.ensures.spent) in
    record {
      gives = gives_of (IsLeastOfAll (families s0 list)) s0 c.union.new.memory c.union.result both;
      spent = spent_of (IsLeastOfAll (families s0 list)) s0 c.union.new.memory c.union.result both;
    }
