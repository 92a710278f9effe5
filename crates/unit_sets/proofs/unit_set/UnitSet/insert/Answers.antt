use Rattle.std.proofs.Common.{◌≡◌, length, not, sym, ◌∙◌, ap, subst}
use Rattle.unit_sets.specs.Words.{units_of, HoldsUnits}
use Rattle.unit_sets.proofs.unit_set.UnitSet.insert.Goals as goal
use Rattle.std.proofs.lemmas.List.{with_items_is}
use Rattle.unit_sets.proofs.WordSets.{member_by_bit, HoldsUnits-with, units_of-inserted}

pub invariant_of-self : goal.invariant_of-self
invariant_of-self c =
    let whole : length c.set_bit.new.words ≡ c.self.inside.words.len = c.set_bit.auto.words ∙ c.deref_mut.ensures.len in
    subst HoldsUnits (sym (with_items_is c.self.inside.words c.set_bit.new.words whole))
    (HoldsUnits-with c.set_bit.new.words
    c.deref_mut.ensures.value c.number-2.ensures.value c.number-2.ensures.unit c.set_bit.auto.words
    c.set_bit.ensures c.self.invariant)

pub returns-clause-changed : goal.returns-clause-changed
returns-clause-changed c =
    ap not (c.bit-fresh.ensures ∙ member_by_bit c.deref.ensures.value c.number.ensures.value c.number.ensures.unit
    c.self.view_is)

pub returns-clause-after : goal.returns-clause-after
returns-clause-after c =
    let whole : length c.set_bit.new.words ≡ c.self.inside.words.len = c.set_bit.auto.words ∙ c.deref_mut.ensures.len in
    ap units_of (with_items_is c.self.inside.words c.set_bit.new.words whole)
    ∙ units_of-inserted c.set_bit.new.words c.deref_mut.ensures.value c.number-2.ensures.value c.number-2.ensures.unit
    c.set_bit.ensures c.self.view_is
