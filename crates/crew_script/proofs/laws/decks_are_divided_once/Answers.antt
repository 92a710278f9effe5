use Rattle.crew_script.proofs.DividedLemmas.{divided_so, divided_once}
use Rattle.crew_script.proofs.laws.decks_are_divided_once.Goals as goal

pub returns-clause-read : goal.returns-clause-read
returns-clause-read c = divided_so

pub returns-clause-once : goal.returns-clause-once
returns-clause-once c = divided_once
