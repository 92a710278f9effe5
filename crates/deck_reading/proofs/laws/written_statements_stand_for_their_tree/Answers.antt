use Rattle.std.proofs.Common.{ap, ◌∙◌}
use Rattle.galileo_tree.specs.Parsed.{parsed_text}
use Rattle.deck_reading.proofs.laws.written_statements_stand_for_their_tree.Goals as goal

pub returns-clause-alone : goal.returns-clause-alone
returns-clause-alone c = λ statements tree good stands kept.
    let (read, parsed, says) = c.written_statements_are_read.ensures statements good in
    record {
      read = read;
      parsed = ap parsed_text (c.written_statements_are_the_tree_part.ensures.whole statements good) ∙ parsed;
      stands = c.trees_are_of_statements_anywhere.ensures read statements tree says stands;
      kept = kept;
    }

pub returns-clause-with_crews : goal.returns-clause-with_crews
returns-clause-with_crews c = λ statements lines tree good stands kept.
    let (read, parsed, says) = c.written_statements_are_read.ensures statements good in
    record {
      read = read;
      parsed = ap parsed_text (c.written_statements_are_the_tree_part.ensures.before statements lines good) ∙ parsed;
      stands = c.trees_are_of_statements_anywhere.ensures read statements tree says stands;
      kept = kept;
    }
