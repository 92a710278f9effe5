use Rattle.cut_texts.proofs.UnitTextsLemmas.{AreFirstTexts}
use Rattle.cut_texts.proofs.unit_texts.UnitTexts.new.Given as goal

abbrev pub invariant-loop-before : goal.invariant-loop-before
invariant-loop-before l = AreFirstTexts l.tree l.rows l.before
