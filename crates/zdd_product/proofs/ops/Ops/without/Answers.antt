use Rattle.zdd_families.specs.{Due.IsDueToWithout, Without.IsWithout, Map.family}
use Rattle.zdd_shared_table.specs.Seats.{map_of}
use Rattle.zdd_product.specs.Due.{IsMadeByWithout}
use Rattle.zdd_product.proofs.After.{gave_of, full_of}
use Rattle.zdd_product.proofs.ops.Ops.without.Goals as goal

pub returns-clause-gives : goal.returns-clause-gives
returns-clause-gives c =
    let f = family (map_of c.args.self.now) c.args.a in
    let g = family (map_of c.args.self.now) c.args.b in
    gave_of (IsWithout f g) (IsMadeByWithout f g) (IsDueToWithout f g) (λ h made. made.2) c.args.self.now
    c.strip.new.self c.strip.result c.strip.ensures

pub returns-clause-full : goal.returns-clause-full
returns-clause-full c =
    let f = family (map_of c.args.self.now) c.args.a in
    let g = family (map_of c.args.self.now) c.args.b in
    full_of (IsWithout f g) (IsMadeByWithout f g) (IsDueToWithout f g) (λ h made. made.2) c.args.self.now
    c.strip.new.self c.strip.result c.strip.ensures
