use Rattle.deck_reading.proofs.WrittenRead.{written_are_read}
use Rattle.deck_reading.proofs.laws.written_statements_are_read.Goals as goal

pub returns : goal.returns
returns c = written_are_read c.reads_one_way.ensures c.parses_one_way.ensures
