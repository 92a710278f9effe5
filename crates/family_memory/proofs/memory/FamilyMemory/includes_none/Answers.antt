use Rattle.family_memory.specs.Memory.{family_in}
use Rattle.family_memory.proofs.After.{is_family}
use Rattle.family_memory.proofs.memory.FamilyMemory.includes_none.Goals as goal

pub returns : goal.returns
returns c is =
    let held = c.args.self.now in
    let sound = c.is_sound.ensures in
    c.includes_none.ensures (family_in held c.args.a) (family_in held c.args.b)
    (is_family c.args.a sound c.requires.has_a) (is_family c.args.b sound c.requires.has_b)
    c.extent.ensures c.extent-2.ensures is
