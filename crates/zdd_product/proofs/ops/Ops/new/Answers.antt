use Rattle.zdd_shared_table.specs.Seats.{map_of}
use Rattle.zdd_product.proofs.Entries.{told_of_none}
use Rattle.zdd_product.proofs.ops.Ops.new.Goals as goal

pub invariant_of-result : goal.invariant_of-result
invariant_of-result c = record {
  own = c.requires;
  sound = c.is_sound.ensures.sound;
  told = told_of_none (map_of c.args.seat) c.in-Ok.answers c.in-Ok.ensures;
}
