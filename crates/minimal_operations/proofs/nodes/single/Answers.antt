use Rattle.std.proofs.Common.{◌≡◌, [], ◌∷◌}
use Rattle.minimal_operations.proofs.{Answering.gives_of, Answering.spent_of, Singles.single_can, Singles.single_made}
use Rattle.minimal_operations.proofs.nodes.single.Goals as goal

pub branch_node-requires : goal.branch_node-requires
branch_node-requires c =
    let can = single_can c.args.unit c.is_sound.ensures in
    record {
      has_lo = can.has_lo;
      has_hi = can.has_hi;
      lo_above = can.lo_above;
      hi_above = can.hi_above;
      antichain = can.antichain;
    }

pub returns : goal.returns
returns c =
    let held = c.args.memory.now in
    let after = c.branch_node.new.memory in
    let result = c.branch_node.result in
    let made = single_made c.args.unit c.is_sound.ensures after result c.branch_node.ensures in
    record {
      gives = gives_of (λ f. f ≡ (c.args.unit ∷ []) ∷ []) held after result made;
      spent = spent_of (λ f. f ≡ (c.args.unit ∷ []) ∷ []) held after result made;
    }
