use Rattle.tree_picture.proofs.OnceLemmas.{all_counted, inputs_once, node_once}
use Rattle.tree_picture.proofs.laws.pictures_have_each_node_and_input_once.Goals as goal

pub returns-clause-nodes : goal.returns-clause-nodes
returns-clause-nodes c = λ tree marked kept named node is. node_once tree marked kept named node is

pub returns-clause-inputs : goal.returns-clause-inputs
returns-clause-inputs c = λ tree marked kept named gate is. inputs_once tree marked kept named gate is

pub returns-clause-all : goal.returns-clause-all
returns-clause-all c = λ tree marked kept named. all_counted tree marked kept named
