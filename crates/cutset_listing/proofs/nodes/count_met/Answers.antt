use Rattle.std.proofs.Common.{◌≡◌, ◌+◌, ◌≤◌, ◌∙◌, get_or, refl, sym, ap, subst, inr, arith, length}
use Rattle.std.proofs.lemmas.Option.{slice_get-get_or}
use Rattle.zdd_families.specs.{Nodes.IsNodeCount, Map.family}
use Rattle.zdd_families.proofs.NodesLemmas.{node_count-references}
use Rattle.zdd_shared_table.specs.Seats.{map_of}
use Rattle.cutset_listing.specs.Nodes.{with_node}
use Rattle.cutset_listing.proofs.Meets.{meets_root, meets_parts, met_all, few_nodes, inner, lo_of_word, hi_of_word}
use Rattle.cutset_listing.proofs.nodes.count_met.Goals.{After-index}
use Rattle.cutset_listing.proofs.nodes.count_met.Goals as goal

-- the node at the place
node_read : (c : After-index) → c.index.result.now ≡ get_or c.loop-place.met.keys c.loop-place.place 0
node_read c =
    let test = c.loop-place-test.true in
    let len = c.len.ensures.len in
    let stands = slice_get-get_or c.loop-place.met.keys c.loop-place.place 0 (omega (arith, test, len)) in
    let read = c.index.ensures in
    cc

pub loop-place-init : goal.loop-place-init
loop-place-init c = record {
  met =
      rw (c.in_ok-meet.ensures, c.requires.none) (meets_root _ c.is_sound.ensures.sound.closed c.args.root
      c.requires.knows);
  within = omega arith;
  seat = refl;
}

pub parts-parts-requires-clause-knows : goal.parts-parts-requires-clause-knows
parts-parts-requires-clause-knows c =
    let to = (goal.at.parts-parts-requires-clause-knows c).After-index in
    let test = c.loop-place-test.true in
    let len = c.len.ensures.len in
    rw c.loop-place.invariant.seat (inr (inner _ c.is_sound.ensures.sound.closed
    c.loop-place.invariant.met (omega (arith, test, len)) (node_read to)))

pub parts-parts-requires-clause-inner : goal.parts-parts-requires-clause-inner
parts-parts-requires-clause-inner c =
    let to = (goal.at.parts-parts-requires-clause-inner c).After-index in
    let test = c.loop-place-test.true in
    let len = c.len.ensures.len in
    let closed = c.is_sound.ensures.sound.closed in
    (closed c.index.result.now (inner _ closed c.loop-place.invariant.met (omega (arith, test, len)) (node_read to))).0

-- no place is behind the references of the store
pub loop-place-smaller : goal.loop-place-smaller
loop-place-smaller c =
    let test = c.loop-place-test.true in
    let len = c.len.ensures.len in
    let few : length c.loop-place.met.keys ≤ c.args.store.now.words + 2 =
    few_nodes c.is_sound.ensures.sound.closed (c.args.store.now.words + 2) c.loop-place.invariant.met
    (rw c.requires.own at c.is_sound.ensures.sound.within) in
    omega (arith, test, len, few)

pub loop-place-preserved : goal.loop-place-preserved
loop-place-preserved c =
    let to = (goal.at.loop-place-preserved c).After-index in
    let test = c.loop-place-test.true in
    let len = c.len.ensures.len in
    let word = rw c.loop-place.invariant.seat at c.parts-parts.ensures.word in
    let both =
    meets_parts _ c.is_sound.ensures.sound.closed c.loop-place.invariant.met (omega (arith, test, len)) (node_read to)
    (lo_of_word c.parts-parts.result.level c.parts-parts.result.hi word c.number.ensures.small
    c.number-in-loop-place.ensures.small) (hi_of_word c.parts-parts.result.level c.parts-parts.result.lo word
    c.number-in-loop-place.ensures.small)
    (c.in_ok-meet-3.ensures ∙ ap (with_node c.parts-parts.result.hi) c.in_ok-meet-2.ensures) in
    record { met = both.0; within = both.1; seat = c.parts-parts.ensures.seat ∙ c.loop-place.invariant.seat }

-- the nodes that were met are those that the root reaches
pub returns-clause-count : goal.returns-clause-count
returns-clause-count c =
    let test = c.loop-place-test.false in
    let len = c.len.ensures.len in
    let sound = c.is_sound.ensures.sound in
    subst (IsNodeCount (family (map_of c.args.seat.now) c.args.root)) (sym c.len-2.ensures.len)
    (node_count-references _ sound.closed sound.unique c.args.root c.requires.knows c.loop-place.met.keys
    c.loop-place.invariant.met.once (met_all _ sound.closed c.loop-place.invariant.met (omega (arith, test, len))))
