use Rattle.std.proofs.Common.{◌∙◌, refl, sym, subst, arith}
use Rattle.std.proofs.lemmas.Result.{err_from_is_err_and}
use Rattle.fault_definitions.specs.Tree.{IsNodeOf}
use Rattle.zdd_shared_table.specs.Seats.{map_of}
use Rattle.zdd_product.proofs.After.{WentOn-nowhere, WentOn-then, WasFull-then}
use Rattle.path_sets.specs.{Due.IsDueToPaths}
use Rattle.path_sets.proofs.RootLemmas.{all_known, below_known, made_more}
use Rattle.path_sets.proofs.root.make_all.Goals as goal

pub loop-node-init : goal.loop-node-init
loop-node-init c = record {
  on = WentOn-nowhere (IsDueToPaths c.args.tree.now) c.args.ops.now c.is_sound.ensures.sound;
  paths = λ k within. absurd (omega arith);
  size = refl;
  room = c.requires.room;
}

pub make_one-requires-clause-node : goal.make_one-requires-clause-node
make_one-requires-clause-node c =
    subst (IsNodeOf c.args.tree.now) (sym c.node-item.is)
    (c.bottom_up-node-items.ensures.order.nodes c.loop-node.node-index c.node-item.result c.loop-node-test.true)

pub make_one-requires-clause-below : goal.make_one-requires-clause-below
make_one-requires-clause-below c =
    below_known c.bottom_up-node-items.ensures.kept c.bottom_up-node-items.ensures.order (map_of c.loop-node.ops)
    c.loop-node.references c.loop-node.node-index c.loop-node-test.true c.node-item.is c.loop-node.invariant.paths

pub loop-node-preserved : goal.loop-node-preserved
loop-node-preserved c =
    let inv = c.loop-node.invariant in
    let made = c.in_ok-make_one.ensures.made in
    record {
      on = WentOn-then c.make_one.new.ops inv.on made.on;
      paths =
          made_more c.bottom_up-node-items.ensures.order inv.on.went.sound c.loop-node.node-index c.loop-node-test.true
          c.node-item.is made inv.paths;
      size = made.size ∙ inv.size;
      room = c.make_one.ensures.room;
    }

pub returns-in_err-make_one-clause-full : goal.returns-in_err-make_one-clause-full
returns-in_err-make_one-clause-full c =
    let p = err_from_is_err_and c.from_residual.result c.from_residual.ensures.1 in
    rw p.1 (WasFull-then c.make_one.new.ops c.loop-node.invariant.on c.in_err-make_one.ensures.full)

pub returns-clause-paths : goal.returns-clause-paths
returns-clause-paths c =
    all_known c.bottom_up-node-items.ensures.kept c.bottom_up-node-items.ensures.order (map_of c.loop-node.ops)
    c.loop-node.references (λ k within. c.loop-node.invariant.paths k (omega (arith, within, c.loop-node-test.false)))
