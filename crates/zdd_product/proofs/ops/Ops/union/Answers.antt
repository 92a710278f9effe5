use Rattle.zdd_families.specs.{Due.IsDueToUnion, Union.IsUnion, Map.family}
use Rattle.zdd_shared_table.specs.Seats.{map_of}
use Rattle.zdd_product.specs.Due.{IsMadeByUnion}
use Rattle.zdd_product.proofs.After.{gave_of, full_of}
use Rattle.zdd_product.proofs.ops.Ops.union.Goals as goal

pub returns-clause-gives : goal.returns-clause-gives
returns-clause-gives c =
    let f = family (map_of c.args.self.now) c.args.a in
    let g = family (map_of c.args.self.now) c.args.b in
    gave_of (IsUnion f g) (IsMadeByUnion f g) (IsDueToUnion f g) (λ h made. made.1) c.args.self.now c.unite.new.self
    c.unite.result c.unite.ensures

pub returns-clause-full : goal.returns-clause-full
returns-clause-full c =
    let f = family (map_of c.args.self.now) c.args.a in
    let g = family (map_of c.args.self.now) c.args.b in
    full_of (IsUnion f g) (IsMadeByUnion f g) (IsDueToUnion f g) (λ h made. made.1) c.args.self.now c.unite.new.self
    c.unite.result c.unite.ensures
