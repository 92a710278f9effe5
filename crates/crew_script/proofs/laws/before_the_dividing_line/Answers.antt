use Rattle.crew_script.proofs.DividedLemmas.{tree_part_undivided, number_by_feeds}
use Rattle.crew_script.proofs.laws.before_the_dividing_line.Goals as goal

pub returns-clause-none : goal.returns-clause-none
returns-clause-none c = tree_part_undivided

pub returns-clause-number : goal.returns-clause-number
returns-clause-number c = number_by_feeds
