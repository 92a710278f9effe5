use Rattle.std.proofs.Common.{◌≡◌, ◌∙◌, ap, subst}
use Rattle.zdd_words.specs.Word.{level_of, lo_of, hi_of}
use Rattle.family_memory.specs.Memory.{Held, IsSound, map_of}
use Rattle.family_memory.proofs.Nodes.{parts_of, read_word}
use Rattle.family_memory.proofs.memory.FamilyMemory.parts.Goals as goal

pub returns : goal.returns
returns c =
    let held = c.args.self.now in
    let inside : Held =
    record { words = c.self.inside.words.items; room = c.self.inside.room; refused = c.self.inside.refused } in
    let sound : IsSound held = subst IsSound c.self.view_is c.self.invariant.sound in
    let word : c.index.result.now ≡ map_of held c.args.r =
    read_word c.self.view_is c.number.ensures.value c.requires.has c.index.ensures in
    parts_of c.args.r sound c.requires.has c.requires.inner c.unpack.result
    (c.unpack.ensures.level ∙ ap level_of word) (c.unpack.ensures.lo ∙ ap lo_of word)
    (c.unpack.ensures.hi ∙ ap hi_of word)
