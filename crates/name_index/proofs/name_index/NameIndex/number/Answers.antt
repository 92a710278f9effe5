use Rattle.std.proofs.Common.{arith, ◌≡◌}
use Rattle.std.proofs.lemmas.Grind.{common_steps}
use Rattle.fault_words.specs.Names.{number_at, number_in}
use Rattle.name_index.proofs.Names.{behind, number_found}
use Rattle.name_index.proofs.name_index.NameIndex.number.Goals as goal

pub returns-in-Some : goal.returns-in-Some
returns-in-Some c =
    let found : number_at c.get_index_of.result ≡ number_in (behind c.self.inside.names.keys) c.args.name.now =
    number_found c.self.inside.names.keys c.as_slice.ensures.bytes c.get_index_of.ensures.index in
    let is = c.in-Some.is in
    let view = c.self.view_is in
    grind (arith, common_steps)

pub returns-in-None : goal.returns-in-None
returns-in-None c =
    let found : number_at c.get_index_of.result ≡ number_in (behind c.self.inside.names.keys) c.args.name.now =
    number_found c.self.inside.names.keys c.as_slice.ensures.bytes c.get_index_of.ensures.index in
    let is = c.in-None.is in
    let view = c.self.view_is in
    grind (arith, common_steps)
