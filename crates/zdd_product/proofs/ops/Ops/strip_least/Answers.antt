use Rattle.std.proofs.Common.{◌≡◌, ◌≢◌, arith}
use Rattle.zdd_families.specs.Map.{family}
use Rattle.zdd_shared_table.specs.Seats.{map_of}
use Rattle.zdd_product.specs.Due.{IsMadeByWithout}
use Rattle.zdd_product.proofs.{After.Gave-known, MinimalSteps.unit_of_least}
use Rattle.zdd_product.proofs.ops.Ops.strip_least.Goals as goal

pub returns-then-ne : goal.returns-then-ne
returns-then-ne c =
    let known = map_of c.args.self.now in
    let unit : c.args.high ≡ 1 = grind arith in
    let other : c.args.low ≢ 1 = grind arith in
    let sound = c.requires.both.sound in
    Gave-known (IsMadeByWithout (family known c.args.high) (family known c.args.low)) c.args.self.now sound
    (unit_of_least known sound.closed sound.unique c.requires.both.second c.requires.least.1 unit other)
