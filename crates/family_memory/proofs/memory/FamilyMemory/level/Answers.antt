use Rattle.std.proofs.Common.{◌≡◌, arith}
use Rattle.family_memory.specs.Memory.{Held, map_of}
use Rattle.family_memory.proofs.Nodes.{level_read, read_word}
use Rattle.family_memory.proofs.memory.FamilyMemory.level.Goals as goal

pub returns : goal.returns
returns c =
    let held = c.args.self.now in
    let inside : Held =
    record { words = c.self.inside.words.items; room = c.self.inside.room; refused = c.self.inside.refused } in
    let word : c.index.result.now ≡ map_of held c.args.r =
    read_word c.self.view_is c.number-2.ensures.value c.requires c.index.ensures in
    level_read held c.args.r word (let e = c.number.ensures.value in omega arith)
