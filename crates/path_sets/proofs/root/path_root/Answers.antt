use Rattle.std.proofs.Common.{◌≡◌, ◌∙◌, ◌-◌, false, ℕ, List, get_or, length, subst, sym, ap, arith}
use Rattle.fault_definitions.specs.Tree.{IsNodeOf, is_fdep}
use Rattle.zdd_shared_table.specs.Seats.{map_of}
use Rattle.zdd_product.specs.Seats.{KnowsOne}
use Rattle.zdd_product.proofs.Several.{WentAll-nowhere}
use Rattle.path_sets.specs.{Due.IsDueToPaths, Paths.IsPathFamily}
use Rattle.path_sets.proofs.RootLemmas.{read_back}
use Rattle.path_sets.proofs.root.path_root.Goals as goal

pub returns-in_err-references-clause-went : goal.returns-in_err-references-clause-went
returns-in_err-references-clause-went c = WentAll-nowhere (IsDueToPaths c.args.tree.now) c.is_sound.ensures.sound

pub returns-in_err-rooms-clause-went : goal.returns-in_err-rooms-clause-went
returns-in_err-rooms-clause-went c = WentAll-nowhere (IsDueToPaths c.args.tree.now) c.is_sound.ensures.sound

pub returns-clause-paths : goal.returns-clause-paths
returns-clause-paths c =
    let tree = c.args.tree.now in
    let vec = c.in_ok-references.references in
    let references = c.make_by_seat.new.references in
    let is_node = subst (λ (n : ℕ). IsNodeOf tree n) c.top.ensures.top c.top.ensures.node in
    let read = subst (λ (n : ℕ). is_fdep tree n ≡ false) c.top.ensures.top c.top.ensures.read in
    let place : c.index.result ≡ tree.top - 1 = c.index.ensures ∙ ap (λ n. n - 1) c.top.ensures.top in
    let size : length references ≡ length vec.items =
    c.make_by_seat.ensures.size ∙ ap (λ (l : List ℕ). length l) c.deref_mut.ensures.value in
    let low = is_node.0 in
    let high = is_node.1 in
    let all = c.in_ok-references.ensures.len in
    let units = c.units.ensures.count in
    let gates = c.gates.ensures.count in
    let len = vec.ok.0 in
    let read_at : c.index-2.result.now ≡ get_or references (tree.top - 1) 0 =
    c.index-2.ensures
    ∙ read_back references vec.items vec.len c.index.result _ (omega (arith, low, high, all, units, gates, place, len))
    (omega (arith, low, high, all, units, gates, place, len, size))
    ∙ ap (λ n. get_or references n 0) place in
    subst (λ (r : ℕ). KnowsOne (map_of c.make_by_seat.new.seat) r (IsPathFamily tree tree.top)) (sym read_at)
    (c.in_ok-make_by_seat.ensures.paths tree.top is_node read)
