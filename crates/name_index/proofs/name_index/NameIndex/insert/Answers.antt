use Rattle.std.proofs.{Common.arith, lemmas.Grind.common_steps}
use Rattle.name_index.proofs.Names.{has-behind}
use Rattle.name_index.proofs.name_index.NameIndex.insert.Goals as goal

pub returns-clause-new : goal.returns-clause-new
returns-clause-new c = grind (arith, common_steps, has-behind c.args.name.now c.self.inside.names.keys)
