use Rattle.family_memory.specs.Memory.{Held}
use Rattle.family_memory.proofs.ExtentLemmas.{extent_read}
use Rattle.family_memory.proofs.memory.FamilyMemory.extent.Goals as goal

pub returns : goal.returns
returns c =
    let inside : Held =
    record { words = c.self.inside.words.items; room = c.self.inside.room; refused = c.self.inside.refused } in
    extent_read c.self.view_is c.number.ensures.value c.requires c.self.invariant.reach c.index.ensures
