use Rattle.std.proofs.Common.{sym, ◌∙◌}
use Rattle.zdd_words.specs.Word.{packed}
use Rattle.family_memory.proofs.After.{answers_of_node}
use Rattle.minimal_operations.proofs.Halving.{node_without}
use Rattle.minimal_operations.proofs.nodes.branch_node.Goals as goal

pub returns-then-number-eq0 : goal.returns-then-number-eq0
returns-then-number-eq0 c =
    node_without c.args.level c.is_sound.ensures c.requires.has_lo (sym c.number.ensures.value ∙ c.if-number-eq0.true)

pub returns : goal.returns
returns c =
    answers_of_node c.is_sound.ensures c.node.ensures.keeps c.node.ensures.room
    c.node.ensures.sound _ (packed c.args.level c.args.lo c.args.hi) c.node.result c.node.ensures.has
    c.node.ensures.family c.node.ensures.used_up c.node.ensures.words c.node.ensures.refused
