use Rattle.std.proofs.Common.{◌++◌, ◌∙◌, arith, drop, subst}
use Rattle.std.proofs.{lemmas.List.length-take-le, lemmas.Slice.drop-append-drop}
use Rattle.zdd_families.specs.Least.{IsLeastOfAll, IsLeastUnion}
use Rattle.family_memory.specs.Memory.{Gave, family_in}
use Rattle.family_memory.proofs.After.{answers_of}
use Rattle.many_families.specs.Lists.{families}
use Rattle.many_families.proofs.ManySteps.{halves_united, rest_from}
use Rattle.many_families.proofs.chains.+unite_places.Goals as goal

pub returns : goal.returns
returns t c =
    halves_united c.args.places.now c.end_of_first-end.result c.is_sound.ensures c.requires c.in_ok-first.ensures
    (subst (λ l. Gave (IsLeastOfAll (families c.unite_places.new.memory l)) c.unite_places.new.memory
    c.unite_places-2.new.memory c.in_ok-second.second)
    (rest_from (c.unite_places.new.places ++ drop c.end_of_first-end.result c.args.places.now)
    c.end_of_first-end.result
    ∙ drop-append-drop c.end_of_first-end.result c.args.places.now c.unite_places.new.places
    c.end_of_first-end.result (omega arith) (c.unite_places.auto.places
    ∙ length-take-le c.end_of_first-end.result c.args.places.now (omega arith))) c.in_ok-second.ensures)
    c.union.new.memory c.union.result
    (answers_of (IsLeastUnion (family_in c.unite_places-2.new.memory c.in_ok-first.first)
    (family_in c.unite_places-2.new.memory c.in_ok-second.second)) c.unite_places-2.new.memory c.union.new.memory
    c.union.result c.union.ensures.gives c.union.ensures.spent)
