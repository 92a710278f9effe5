use Rattle.std.proofs.Common.{◌∙◌}
use Rattle.zdd_shared_table.specs.Seats.{map_of}
use Rattle.zdd_product.proofs.Entries.{all_told}
use Rattle.zdd_product.proofs.ops.Ops.node.Goals as goal

pub invariant_of-self : goal.invariant_of-self
invariant_of-self c = record {
  own = c.node.ensures.store ∙ c.self.invariant.own;
  sound = c.node.ensures.sound;
  told =
      all_told (map_of c.self.inside.seat) (map_of c.node.new.seat) c.self.inside.answers
      c.self.invariant.sound.closed c.node.ensures.sound.closed c.node.ensures.keeps c.self.invariant.told;
}

pub returns : goal.returns
returns c = rw (← c.self.invariant.own, c.self.view_is) at c.node.ensures
