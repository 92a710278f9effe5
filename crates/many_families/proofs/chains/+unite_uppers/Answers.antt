use Rattle.std.proofs.Common.{◌≡◌, ◌∙◌, ◌/◌, get_or, length, arith, subst, sym}
use Rattle.std.proofs.{lemmas.Bool.eqb-true, lemmas.List.get_or_read}
use Rattle.zdd_families.specs.Least.{IsLeastOfAll, IsLeastUnion}
use Rattle.family_memory.specs.Memory.{Gave, family_in}
use Rattle.family_memory.proofs.After.{answers_of}
use Rattle.minimal_operations.specs.Halves.{IsHalf}
use Rattle.many_families.specs.{Lists.families, Chains.uppers}
use Rattle.many_families.proofs.ChainSteps.{upper_of_none, upper_of_one, uppers_united}
use Rattle.many_families.proofs.ManySteps.{rest_from}
use Rattle.many_families.proofs.chains.+unite_uppers.Goals as goal

pub returns-then-is_empty : goal.returns-then-is_empty
returns-then-is_empty t c =
    upper_of_none c.args.level c.args.list.now c.is_sound.ensures
    (eqb-true (length c.args.list.now) 0 (sym c.is_empty.ensures ∙ c.if-is_empty.true))

pub returns-then-list-eq1 : goal.returns-then-list-eq1
returns-then-list-eq1 t c =
    let held = c.args.memory.now in
    let at : c.index-list-0.result ≡ get_or c.args.list.now 0 0 =
    get_or_read c.args.list.now 0 c.index-list-0.result (omega arith) c.index-list-0.is 0 in
    upper_of_one c.args.list.now c.is_sound.ensures (omega arith)
    (subst (λ r. IsHalf held c.args.level r c.half_at.result) at c.half_at.ensures)

pub returns : goal.returns
returns t c =
    uppers_united c.args.level c.args.list.now (length c.args.list.now / 2) c.is_sound.ensures c.requires.has
    c.in_ok-first.ensures
    (subst (λ l. Gave (IsLeastOfAll (uppers c.args.level (families c.unite_uppers.new.memory l)))
    c.unite_uppers.new.memory c.unite_uppers-2.new.memory c.in_ok-second.second)
    (rest_from c.args.list.now (length c.args.list.now / 2)) c.in_ok-second.ensures)
    c.union.new.memory c.union.result
    (answers_of (IsLeastUnion (family_in c.unite_uppers-2.new.memory c.in_ok-first.first)
    (family_in c.unite_uppers-2.new.memory c.in_ok-second.second)) c.unite_uppers-2.new.memory c.union.new.memory
    c.union.result c.union.ensures.gives c.union.ensures.spent)
