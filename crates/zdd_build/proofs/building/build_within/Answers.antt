use Rattle.std.proofs.Common.{◌≡◌, ◌∙◌, ◌-◌, ◌<◌, false, ℕ, get_or, length, refl, subst, sym, ap, arith}
use Rattle.std.proofs.lemmas.List.{get_or_read}
use Rattle.fault_definitions.specs.{CutFamily.IsCutFamily, Tree.IsNodeOf, Tree.is_fdep}
use Rattle.tree_families.specs.Due.{IsDueToTree}
use Rattle.zdd_shared_table.specs.Seats.{map_of}
use Rattle.zdd_product.specs.Seats.{KnowsOne}
use Rattle.zdd_product.proofs.Several.{WentAll-nowhere}
use Rattle.zdd_build.specs.Places.{ArePlaces}
use Rattle.zdd_build.proofs.{TableLemmas.all_made, building.build_within.Goals.In_ok-build_by_team}
use Rattle.zdd_build.proofs.building.build_within.Goals as goal
use Rattle.zdd_build.proofs.building.build_within.Given as given

pub returns-in_err-places-clause-went : goal.returns-in_err-places-clause-went
returns-in_err-places-clause-went g c = WentAll-nowhere (IsDueToTree c.args.tree.now) c.is_sound.ensures.sound

pub returns-in_err-table-clause-went : goal.returns-in_err-table-clause-went
returns-in_err-table-clause-went g c = WentAll-nowhere (IsDueToTree c.args.tree.now) c.is_sound.ensures.sound

-- each node that is read has its family at its place
made : (g : given.Over) (c : In_ok-build_by_team g) (node : ℕ) → IsNodeOf c.args.tree.now node
    → is_fdep c.args.tree.now node ≡ false → KnowsOne (map_of c.build_by_team.new.seat)
    (get_or c.build_by_team.new.table.references.items (node - 1) 0) (IsCutFamily c.args.tree.now node)
made g c node is_node read =
    let tree = c.args.tree.now in
    let table = c.build_by_team.new.table in
    let are : ArePlaces tree c.as_slice.result.now =
    subst (ArePlaces tree) (sym c.as_slice.ensures.value) c.in_ok-places.ensures in
    let is = c.in_ok-build_by_team.ensures.built in
    all_made are is refl node is_node read

pub returns-clause-top : goal.returns-clause-top
returns-clause-top g c =
    let tree = c.args.tree.now in
    let references = c.build_by_team.new.table.references.items in
    let is_node = subst (λ (n : ℕ). IsNodeOf tree n) c.top.ensures.top c.top.ensures.node in
    let read = subst (λ (n : ℕ). is_fdep tree n ≡ false) c.top.ensures.top c.top.ensures.read in
    let place : c.index.result ≡ tree.top - 1 = c.index.ensures ∙ ap (λ n. n - 1) c.top.ensures.top in
    let fits : c.index.result < length references =
    (let l = is_node.0 in let h = is_node.1 in let e = c.in_ok-build_by_team.ensures.built.built.all_nodes in
    omega (arith, l, h, e, place)) in
    let read_at : c.index-2.result.now ≡ get_or references (tree.top - 1) 0 =
    get_or_read references c.index.result c.index-2.result.now fits c.index-2.ensures 0
    ∙ ap (λ n. get_or references n 0) place in
    subst (λ (r : ℕ). KnowsOne (map_of c.build_by_team.new.seat) r (IsCutFamily tree tree.top)) (sym read_at)
    (made g (goal.at.returns-clause-top g c).In_ok-build_by_team tree.top is_node read)

pub returns-clause-nodes : goal.returns-clause-nodes
returns-clause-nodes g c node is_node read = record {
  reference = get_or c.build_by_team.new.table.references.items (node - 1) 0;
  stands = made g (goal.at.returns-clause-nodes g c).In_ok-build_by_team node is_node read;
}
