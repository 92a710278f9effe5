use Rattle.family_memory.specs.Memory.{Held}
use Rattle.family_memory.proofs.RestLemmas.{rest_read}
use Rattle.family_memory.proofs.memory.FamilyMemory.rest.Goals as goal

pub returns : goal.returns
returns c =
    let inside : Held =
    record { words = c.self.inside.words.items; room = c.self.inside.room; refused = c.self.inside.refused } in
    rest_read
    c.self.view_is c.number.ensures.value c.requires.inner c.requires.has c.self.invariant.reach c.index.ensures
