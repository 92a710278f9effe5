use Rattle.fault_definitions.proofs.{CutLaws.same_cut_list, CutLists.has_cut_list}
use Rattle.fault_definitions.proofs.laws.each_tree_has_one_cut_list.Goals as goal

pub returns-clause-one : goal.returns-clause-one
returns-clause-one c = has_cut_list

pub returns-clause-unique : goal.returns-clause-unique
returns-clause-unique c = same_cut_list
