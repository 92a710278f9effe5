use Rattle.std.proofs.lemmas.Result.{MatchResult-from_both, err_from_is_err_and}
use Rattle.zdd_families.specs.{Due.IsDueToMinimal, Due.IsDueToProduct, Minimal.IsMinimal, Map.family}
use Rattle.zdd_shared_table.specs.Seats.{map_of}
use Rattle.zdd_product.specs.Seats.{Gave, WasFull}
use Rattle.zdd_product.proofs.After.{WentOn-as, WasFull-as}
use Rattle.zdd_nodes.specs.Steps.{IsLeastProduct, IsDueToLeastProduct, due_to_product, due_to_least}
use Rattle.zdd_nodes.proofs.Answers.{answer_as, answer_then}
use Rattle.zdd_nodes.proofs.steps.multiply_least.Goals as goal

pub returns-in_err-product : goal.returns-in_err-product
returns-in_err-product c =
    let f = family (map_of c.args.ops.now) c.args.a in
    let g = family (map_of c.args.ops.now) c.args.b in
    let p = err_from_is_err_and c.from_residual.result c.from_residual.ensures.1 in
    rw p.1 (WasFull-as (IsDueToProduct f g) (IsDueToLeastProduct f g) (λ h due. due_to_product due) c.args.ops.now
    c.product.new.self c.in_err-product.ensures.full)

pub returns : goal.returns
returns c =
    let f = family (map_of c.args.ops.now) c.args.a in
    let g = family (map_of c.args.ops.now) c.args.b in
    let mid = c.product.new.self in
    let product = family (map_of mid) c.in_ok-product.product in
    let gave = c.in_ok-product.ensures.gives in
    answer_then (IsLeastProduct f g) c.minimal.new.self
    (WentOn-as (IsDueToProduct f g) (IsDueToLeastProduct f g) (λ h due. due_to_product due) c.args.ops.now mid gave.on)
    c.minimal.result
    (answer_as (IsMinimal product) (IsDueToMinimal product) (IsLeastProduct f g) (IsDueToLeastProduct f g)
    (λ h least. record { product = product; product_is = gave.known.1; least_is = least })
    (λ h due. due_to_least gave.known.1 due)
    mid c.minimal.new.self c.minimal.result
    (MatchResult-from_both c.minimal.result (Gave (IsMinimal product) (IsDueToMinimal product) mid c.minimal.new.self)
    (λ _. WasFull (IsDueToMinimal product) mid c.minimal.new.self) c.minimal.ensures.gives c.minimal.ensures.full))
