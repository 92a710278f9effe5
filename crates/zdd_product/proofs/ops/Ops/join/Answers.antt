use Rattle.std.proofs.Common.{◌∙◌}
use Rattle.zdd_shared_table.specs.Seats.{map_of}
use Rattle.zdd_product.proofs.Entries.{all_told}
use Rattle.zdd_product.proofs.ops.Ops.join.Goals as goal

pub invariant_of-self : goal.invariant_of-self
invariant_of-self c = record {
  own = c.join.ensures.store ∙ c.self.invariant.own;
  sound = c.join.ensures.sound;
  told =
      all_told (map_of c.self.inside.seat) (map_of c.join.new.seat) c.self.inside.answers
      c.self.invariant.sound.closed c.join.ensures.sound.closed c.join.ensures.keeps c.self.invariant.told;
}
