use Rattle.family_memory.proofs.ExtentLemmas.{has_hi, has_lo, extent_of_word}
use Rattle.family_memory.proofs.RestLemmas.{rest_of_word}
use Rattle.family_memory.proofs.memory.FamilyMemory.extent_of.Goals as goal

pub extent-lo-requires : goal.extent-lo-requires
extent-lo-requires c = has_lo c.is_sound.ensures c.requires c.unpack-parts.ensures.lo

pub extent-hi-requires : goal.extent-hi-requires
extent-hi-requires c = has_hi c.is_sound.ensures c.requires c.unpack-parts.ensures.hi

pub returns-clause-extent : goal.returns-clause-extent
returns-clause-extent c =
    let parts = c.unpack-parts.result in
    extent_of_word c.is_sound.ensures c.requires c.unpack-parts.ensures.level c.unpack-parts.ensures.lo
    c.unpack-parts.ensures.hi c.extent-lo.ensures c.extent-hi.ensures c.of_node.ensures.extent

pub rest_of-rest-requires-clause-has : goal.rest_of-rest-requires-clause-has
rest_of-rest-requires-clause-has c = has_lo c.is_sound.ensures c.requires c.unpack-parts.ensures.lo

pub returns-clause-rest : goal.returns-clause-rest
returns-clause-rest c =
    let parts = c.unpack-parts.result in
    rest_of_word c.args.word
    c.unpack-parts.ensures.level c.unpack-parts.ensures.lo c.of_node.ensures.rest c.rest_of-rest.ensures
