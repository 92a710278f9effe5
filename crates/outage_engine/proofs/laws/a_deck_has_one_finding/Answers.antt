use Rattle.outage_engine.proofs.{OneFinding.one_finding, SomeFinding.some_finding}
use Rattle.outage_engine.proofs.laws.a_deck_has_one_finding.Goals as goal

pub returns-clause-some : goal.returns-clause-some
returns-clause-some c = some_finding c.a_deck_is_read_one_way.ensures.some c.each_tree_has_one_cut_list.ensures.one

pub returns-clause-one : goal.returns-clause-one
returns-clause-one c = one_finding
