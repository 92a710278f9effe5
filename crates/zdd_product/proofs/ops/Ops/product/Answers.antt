use Rattle.zdd_families.specs.{Due.IsDueToProduct, Product.IsProduct, Map.family}
use Rattle.zdd_shared_table.specs.Seats.{map_of}
use Rattle.zdd_product.specs.Due.{IsMadeByProduct}
use Rattle.zdd_product.proofs.After.{gave_of, full_of}
use Rattle.zdd_product.proofs.ops.Ops.product.Goals as goal

pub returns-clause-gives : goal.returns-clause-gives
returns-clause-gives c =
    let f = family (map_of c.args.self.now) c.args.a in
    let g = family (map_of c.args.self.now) c.args.b in
    gave_of (IsProduct f g) (IsMadeByProduct f g) (IsDueToProduct f g) (λ h made. made.2) c.args.self.now
    c.multiply.new.self c.multiply.result c.multiply.ensures

pub returns-clause-full : goal.returns-clause-full
returns-clause-full c =
    let f = family (map_of c.args.self.now) c.args.a in
    let g = family (map_of c.args.self.now) c.args.b in
    full_of (IsProduct f g) (IsMadeByProduct f g) (IsDueToProduct f g) (λ h made. made.2) c.args.self.now
    c.multiply.new.self c.multiply.result c.multiply.ensures
