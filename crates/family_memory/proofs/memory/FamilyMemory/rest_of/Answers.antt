use Rattle.family_memory.proofs.RestLemmas.{rest_is_lo, rest_beyond}
use Rattle.family_memory.proofs.memory.FamilyMemory.rest_of.Goals as goal

pub returns-then-number-lt2 : goal.returns-then-number-lt2
returns-then-number-lt2 c hi =
    rest_is_lo c.args.self.now c.args.level c.args.lo hi c.requires.above c.requires.has

pub returns : goal.returns
returns c hi =
    rest_beyond c.args.self.now c.args.level c.args.lo hi c.requires.above c.rest.ensures
