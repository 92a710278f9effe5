use Rattle.std.proofs.Common.{◌<◌, ◌+◌, length, refl, sym, ap, subst, arith}
use Rattle.family_memory.specs.{Extents.IsExtent, Kept.AreExtents, Memory.Held, Memory.word_family, Rests.IsRest}
use Rattle.zdd_words.specs.Word.{level_of}
use Rattle.family_memory.proofs.ExtentLemmas.{extent_added}
use Rattle.family_memory.proofs.Adding.{added_to, kept_added, kept_refusing}
use Rattle.family_memory.proofs.memory.FamilyMemory.add.Goals as goal

pub invariant_of-self : goal.invariant_of-self
invariant_of-self c =
    let inside : Held =
    record { words = c.self.inside.words.items; room = c.self.inside.room; refused = c.self.inside.refused } in
    let after : Held =
    record { words = c.self.inside.words.items; room = c.self.inside.room; refused = c.add_one.new.self } in
    kept_refusing
    (ap (λ n. let h : Held = record { words = c.self.inside.words.items; room = c.self.inside.room; refused = n } in h)
    c.add_one.ensures) c.self.invariant

pub invariant_of-self-2 : goal.invariant_of-self-2
invariant_of-self-2 c =
    let inside : Held =
    record { words = c.self.inside.words.items; room = c.self.inside.room; refused = c.self.inside.refused } in
    let after : Held =
    record { words = c.push.new.self.items; room = c.self.inside.room; refused = c.self.inside.refused } in
    let room : length inside.words < inside.room + 2 =
    let e = c.len-at.ensures in let h = c.if-at-self.false in let few = c.self.invariant.sound.terminals in
    omega arith in
    kept_added c.self.view_is c.self.invariant.sound c.requires.node c.requires.antichain room
    c.in-Ok.ensures.items refl refl c.self.invariant c.push.ensures.capacity
    (λ is. subst (AreExtents after) (sym c.in-Ok-push.ensures.items) (extent_added
    c.self.invariant.sound is refl c.self.invariant.reach
    (subst (λ (h : Held). IsExtent (word_family h c.args.word) c.extent_of-extent.result) (sym c.self.view_is)
    c.extent_of-extent.ensures.extent)
    (subst (λ (h : Held). IsRest h (level_of c.args.word) (word_family h c.args.word) c.extent_of-extent.result.rest)
    (sym c.self.view_is) c.extent_of-extent.ensures.rest)))
    c.push-2.ensures.capacity

pub returns : goal.returns
returns c =
    let inside : Held =
    record { words = c.self.inside.words.items; room = c.self.inside.room; refused = c.self.inside.refused } in
    let after : Held =
    record { words = c.push.new.self.items; room = c.self.inside.room; refused = c.self.inside.refused } in
    let room : length inside.words < inside.room + 2 =
    let e = c.len-at.ensures in let h = c.if-at-self.false in let few = c.self.invariant.sound.terminals in
    omega arith in
    added_to c.self.view_is c.self.invariant.sound c.requires.node
    c.requires.antichain room c.in-Ok.ensures.items refl refl
    (let e = c.at_slot-r.ensures in let f = c.len-at.ensures in let few = c.self.invariant.sound.terminals in
    omega arith)
