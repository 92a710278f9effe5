use Rattle.path_sets.proofs.PathLists.{path_list-one}
use Rattle.path_sets.proofs.laws.one_path_list.Goals as goal

pub returns : goal.returns
returns c = path_list-one
