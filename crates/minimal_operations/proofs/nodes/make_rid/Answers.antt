use Rattle.minimal_operations.proofs.RidSteps.{rid_can, rid_made}
use Rattle.minimal_operations.proofs.nodes.make_rid.Goals as goal

pub branch_node-requires : goal.branch_node-requires
branch_node-requires c =
    let can = rid_can c.requires c.in_ok-hi.ensures.gives in
    record {
      has_lo = can.has_lo;
      has_hi = can.has_hi;
      lo_above = can.lo_above;
      hi_above = can.hi_above;
      antichain = can.antichain;
    }

pub returns : goal.returns
returns c =
    rid_made c.requires c.in_ok-hi.ensures.gives c.branch_node.new.memory c.branch_node.result c.branch_node.ensures
