use Rattle.std.proofs.Common.{◌≡◌, ◌∙◌, sym, ap, subst, get_or}
use Rattle.zdd_words.proofs.WordLemmas.{packed-filled}
use Rattle.family_memory.specs.Memory.{Held, IsSound, map_of}
use Rattle.family_memory.proofs.Adding.{node_of, word_is, found_is, sound_asked}
use Rattle.family_memory.proofs.memory.FamilyMemory.node.Goals as goal

pub add-requires-clause-node : goal.add-requires-clause-node
add-requires-clause-node c =
    let sound : IsSound c.args.self.now = subst IsSound c.self.view_is c.self.invariant.sound in
    node_of sound c.number.ensures.unit
    c.requires.has_lo c.requires.has_hi c.requires.filled c.requires.lo_above c.requires.hi_above
    c.pack-word.ensures.level_comes_back c.pack-word.ensures.lo_comes_back c.pack-word.ensures.hi_comes_back

pub add-requires-in-Nowhere-clause-node : goal.add-requires-in-Nowhere-clause-node
add-requires-in-Nowhere-clause-node c =
    let sound : IsSound c.args.self.now = subst IsSound c.self.view_is c.self.invariant.sound in
    node_of sound c.number.ensures.unit
    c.requires.has_lo c.requires.has_hi c.requires.filled c.requires.lo_above c.requires.hi_above
    c.pack-word.ensures.level_comes_back c.pack-word.ensures.lo_comes_back c.pack-word.ensures.hi_comes_back

pub returns-in-Found-clause-family : goal.returns-in-Found-clause-family
returns-in-Found-clause-family c =
    let held = c.args.self.now in
    let sound : IsSound held = subst IsSound c.self.view_is c.self.invariant.sound in
    let same : map_of held c.in-Found.r ≡ c.pack-word.result =
    sym (ap (λ (h : Held). map_of h c.in-Found.r) c.self.view_is)
    ∙ sym (ap (λ l. get_or l c.in-Found.r 0) c.as_slice.ensures.value) ∙ c.in-Found.ensures.1 in
    found_is c.in-Found.r sound same (λ none. packed-filled c.args.level c.args.lo c.args.hi c.number.ensures.unit.0
    (sym c.pack-word.ensures.value ∙ none))
    ∙ word_is held c.pack-word.result c.pack-word.ensures.level_comes_back
    c.pack-word.ensures.lo_comes_back c.pack-word.ensures.hi_comes_back

pub returns-in-Free-clause-sound : goal.returns-in-Free-clause-sound
returns-in-Free-clause-sound c =
    sound_asked c.pack-word.result c.add.result (subst IsSound c.self.view_is c.self.invariant.sound) c.add.ensures

pub returns-in-Nowhere-clause-sound : goal.returns-in-Nowhere-clause-sound
returns-in-Nowhere-clause-sound c =
    sound_asked c.pack-word.result c.add-in-Nowhere.result
    (subst IsSound c.self.view_is c.self.invariant.sound) c.add-in-Nowhere.ensures
