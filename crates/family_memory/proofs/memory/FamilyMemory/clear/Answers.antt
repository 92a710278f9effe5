use Rattle.std.proofs.Common.{◌≡◌, [], ◌∷◌, ◌∙◌, sym, ap, subst, arith}
use Rattle.family_memory.specs.{Kept.AreExtents, Memory.Held}
use Rattle.family_memory.proofs.Empty.{kept_empty, first_two, no_nodes}
use Rattle.family_memory.proofs.ExtentLemmas.{first_two_extents}
use Rattle.family_memory.proofs.memory.FamilyMemory.clear.Goals as goal

pub invariant_of-self : goal.invariant_of-self
invariant_of-self c =
    let inside : Held =
    record { words = c.self.inside.words.items; room = c.self.inside.room; refused = c.self.inside.refused } in
    let after : Held =
    record { words = c.truncate.new.self.items; room = c.self.inside.room; refused = c.self.inside.refused } in
    let words : c.truncate.new.self.items ≡ 0 ∷ 0 ∷ [] = c.truncate.ensures.items ∙ first_two c.self.invariant.sound in
    let both : AreExtents after c.truncate-2.new.self.items =
    subst (AreExtents after) (sym c.truncate-2.ensures.items)
    (first_two_extents after c.self.inside.extents.items c.self.invariant.sound c.self.invariant.reach words) in
    kept_empty words c.self.invariant.sound.counted c.self.invariant.few
    (let h = c.self.invariant.taken in let k = c.truncate.ensures.capacity in omega arith)
    c.clear-2.ensures
    both
    (let h = c.self.invariant.reach_taken in let k = c.truncate-2.ensures.capacity in omega arith)

pub returns : goal.returns
returns c =
    let inside : Held =
    record { words = c.self.inside.words.items; room = c.self.inside.room; refused = c.self.inside.refused } in
    ap (λ l. let held : Held = record { words = l; room = c.self.inside.room; refused = c.self.inside.refused } in
    held) (c.truncate.ensures.items ∙ first_two c.self.invariant.sound)
    ∙ ap (λ (held : Held). no_nodes held.room held.refused) c.self.view_is
