use Rattle.zdd_words.specs.Word.{packed}
use Rattle.family_memory.proofs.After.{answers_of_node}
use Rattle.family_copies.proofs.importing.own_node.Goals as goal

pub returns : goal.returns
returns c =
    answers_of_node c.is_sound.ensures c.node.ensures.keeps c.node.ensures.room
    c.node.ensures.sound _ (packed c.args.level c.args.lo c.args.hi) c.node.result c.node.ensures.has
    c.node.ensures.family c.node.ensures.used_up c.node.ensures.words c.node.ensures.refused
