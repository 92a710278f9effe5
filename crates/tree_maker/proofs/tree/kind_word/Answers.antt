use Rattle.std.proofs.Common.{◌∙◌, ap, sym, slice_index_or}
use Rattle.fault_words.specs.declared.kind.GateKind.TheVariants.{And}
use Rattle.text_pieces.specs.GateWords.{gate_word}
use Rattle.tree_maker.specs.MadeDeck.{kinds}
use Rattle.tree_maker.proofs.Texts.{two_of_three}
use Rattle.tree_maker.proofs.tree.kind_word.Goals as goal

pub returns-in-2 : goal.returns-in-2
returns-in-2 c = sym (ap (λ i. gate_word (slice_index_or kinds i And)) c.in-2.is ∙ two_of_three)
