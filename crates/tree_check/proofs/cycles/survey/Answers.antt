use Rattle.tree_check.proofs.Surveyed.{graph_whole, units_low, surveyed}
use Rattle.tree_check.proofs.cycles.survey.Goals as goal

pub graph_of-requires-clause-units : goal.graph_of-requires-clause-units
graph_of-requires-clause-units c = units_low c.requires.parts c.requires.dependents

pub find_cycles-survey-requires : goal.find_cycles-survey-requires
find_cycles-survey-requires c = graph_whole c.requires.parts c.in_ok-graph.ensures

pub returns : goal.returns
returns c =
    surveyed c.requires.parts c.in_ok-graph.ensures c.find_cycles-survey.result
    c.find_cycles-survey.ensures.all_ranks c.find_cycles-survey.ensures.exact c.find_cycles-survey.ensures.ranked
