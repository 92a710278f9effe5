use Rattle.zdd_families.specs.{Due.IsDueToMinimal, Minimal.IsMinimal, Map.family}
use Rattle.zdd_shared_table.specs.Seats.{map_of}
use Rattle.zdd_product.specs.Due.{IsMadeByMinimal}
use Rattle.zdd_product.proofs.After.{gave_of, full_of}
use Rattle.zdd_product.proofs.ops.Ops.minimal.Goals as goal

pub returns-clause-gives : goal.returns-clause-gives
returns-clause-gives c =
    let f = family (map_of c.args.self.now) c.args.a in
    gave_of (IsMinimal f) (IsMadeByMinimal f) (IsDueToMinimal f) (λ h made. made.1) c.args.self.now c.least.new.self
    c.least.result c.least.ensures

pub returns-clause-full : goal.returns-clause-full
returns-clause-full c =
    let f = family (map_of c.args.self.now) c.args.a in
    full_of (IsMinimal f) (IsMadeByMinimal f) (IsDueToMinimal f) (λ h made. made.1) c.args.self.now c.least.new.self
    c.least.result c.least.ensures
