use Rattle.std.proofs.Common.{◌≡◌, length, sym, ◌∙◌, ap, subst}
use Rattle.unit_sets.specs.Words.{units_of, HoldsUnits}
use Rattle.unit_sets.proofs.unit_set.UnitSet.remove.Goals as goal
use Rattle.std.proofs.lemmas.List.{with_items_is}
use Rattle.unit_sets.proofs.WordSets.{member_by_bit, HoldsUnits-without, units_of-removed}

pub invariant_of-self : goal.invariant_of-self
invariant_of-self c =
    let whole : length c.clear_bit.new.words ≡ c.self.inside.words.len =
    c.clear_bit.auto.words ∙ c.deref_mut.ensures.len in
    subst HoldsUnits (sym (with_items_is c.self.inside.words c.clear_bit.new.words whole))
    (HoldsUnits-without c.clear_bit.new.words c.number-2.result
    c.deref_mut.ensures.value c.clear_bit.auto.words c.clear_bit.ensures c.self.invariant)

pub returns-clause-changed : goal.returns-clause-changed
returns-clause-changed c =
    c.bit-there.ensures ∙ member_by_bit c.deref.ensures.value c.number.ensures.value c.number.ensures.unit
    c.self.view_is

pub returns-clause-after : goal.returns-clause-after
returns-clause-after c =
    let whole : length c.clear_bit.new.words ≡ c.self.inside.words.len =
    c.clear_bit.auto.words ∙ c.deref_mut.ensures.len in
    ap units_of (with_items_is c.self.inside.words c.clear_bit.new.words whole)
    ∙ units_of-removed c.clear_bit.new.words c.deref_mut.ensures.value c.number-2.ensures.value c.clear_bit.ensures
    c.self.view_is
