use Rattle.std.proofs.lemmas.Result.{IfOk-weaker}
use Rattle.zdd_families.specs.Least.{IsLeastProduct}
use Rattle.zdd_families.proofs.Ends.{least_product-swap}
use Rattle.family_memory.specs.Memory.{Gave, family_in}
use Rattle.many_families.proofs.splitting.product_by_splitting.Goals as goal

pub returns-then-lies_below-2-clause-gives : goal.returns-then-lies_below-2-clause-gives
returns-then-lies_below-2-clause-gives c =
    let held = c.args.memory.now in
    let f = family_in held c.args.a in
    let g = family_in held c.args.b in
    let made = c.product_below-then-lies_below-2 in
    IfOk-weaker made.result (Gave (IsLeastProduct g f) held made.new.memory)
    (Gave (IsLeastProduct f g) held made.new.memory)
    (λ r gave. record { went = gave.went; has = gave.has; is = least_product-swap g f _ gave.is }) made.ensures.gives
