use Rattle.std.proofs.Common.{ℕ, arith, inr, refl}
use Rattle.std.proofs.lemmas.Result.{err_from_is_err_and}
use Rattle.zdd_families.specs.Map.{family}
use Rattle.zdd_shared_table.specs.Seats.{map_of}
use Rattle.kept_answers.specs.declared.answers.Operation.TheVariants.{Product}
use Rattle.zdd_product.specs.Due.{IsMadeByProduct}
use Rattle.zdd_product.proofs.{Entries.told_made, After.Gave-known, ProductParts.product_ends, Halving.fewer_of_halves}
use Rattle.zdd_product.proofs.{ops.Ops.+multiply.Goals.multiply_halves-After-halves}
use Rattle.zdd_product.proofs.Halved.{Halved, AreInner, inner_halved, los_next}
use Rattle.zdd_product.proofs.ProductSteps.{both_full, first_next, first_full, both_known, some_full}
use Rattle.zdd_product.proofs.ProductSteps.{second_next, second_full, some_known, product_with, product_lo_full}
use Rattle.zdd_product.proofs.ProductSteps.{product_with_next, product_hi_full, product_lo_known, product_lo_above}
use Rattle.zdd_product.proofs.ProductSteps.{product_hi_above, product_made}
use Rattle.zdd_product.proofs.ops.Ops.+multiply.Goals as goal

pub multiply-returns-in-Some : goal.multiply-returns-in-Some
multiply-returns-in-Some t c =
    let known = map_of c.args.self.now in
    Gave-known (IsMadeByProduct (family known c.args.a) (family known c.args.b)) c.args.self.now c.requires.sound
    (product_ends known c.args.a c.args.b c.in-Some.end c.requires.sound.closed c.requires.first
    c.requires.second c.in-Some.ensures)

pub multiply-returns-in-Some-recall : goal.multiply-returns-in-Some-recall
multiply-returns-in-Some-recall t c =
    let known = map_of c.args.self.now in
    Gave-known (IsMadeByProduct (family known c.args.a) (family known c.args.b)) c.args.self.now c.requires.sound
    (c.in-Some-recall.ensures.answer, c.in-Some-recall.ensures.is)

pub multiply-remember-requires : goal.multiply-remember-requires
multiply-remember-requires t c =
    let known = map_of c.args.self.now in
    told_made Product c.args.a c.args.b c.requires.sound c.requires.first c.requires.second c.in_ok-made.ensures

-- both references were cut
halved : (t : ℕ) (c : multiply_halves-After-halves t) → Halved AreInner c.halves.new.self c.args.self.now c.args.a
    c.args.b c.halves.result
halved t c =
    inner_halved c.halves.ensures.seat c.halves.ensures.sound c.halves.ensures.halves c.requires.both.first
    c.requires.both.second c.requires.inner

pub multiply_halves-multiply-requires : goal.multiply_halves-multiply-requires
multiply_halves-multiply-requires t c =
    let next = los_next (halved t (goal.at.multiply_halves-multiply-requires t c).After-halves) in
    (let less = next.0 in omega (arith, less), next.1)

pub multiply_halves-returns-in_err-lo : goal.multiply_halves-returns-in_err-lo
multiply_halves-returns-in_err-lo t c =
    let cut = halved t (goal.at.multiply_halves-returns-in_err-lo t c).After-halves in
    let p = err_from_is_err_and c.from_residual.result c.from_residual.ensures.1 in
    rw p.1 (product_lo_full cut c.in_err-lo.ensures)

pub multiply_halves-multiply_with-requires : goal.multiply_halves-multiply_with-requires
multiply_halves-multiply_with-requires t c =
    let cut = halved t (goal.at.multiply_halves-multiply_with-requires t c).After-halves in
    let next = product_with_next cut c.in_ok-lo.ensures in
    (let less = next.0 in omega (arith, less), next.1)

pub multiply_halves-returns-in_err-hi : goal.multiply_halves-returns-in_err-hi
multiply_halves-returns-in_err-hi t c =
    let cut = halved t (goal.at.multiply_halves-returns-in_err-hi t c).After-halves in
    let p = err_from_is_err_and c.from_residual-in_err-hi.result c.from_residual-in_err-hi.ensures.1 in
    rw p.1 (product_hi_full cut c.in_ok-lo.ensures c.in_err-hi.ensures)

pub multiply_halves-make-requires : goal.multiply_halves-make-requires
multiply_halves-make-requires t c =
    let cut = halved t (goal.at.multiply_halves-make-requires t c).After-halves in
    record {
      sound = c.in_ok-hi.ensures.on.went.sound;
      knows_lo = (product_lo_known cut c.in_ok-lo.ensures c.in_ok-hi.ensures).0;
      knows_hi = c.in_ok-hi.ensures.known.0;
      lo_above = product_lo_above cut c.in_ok-lo.ensures c.in_ok-hi.ensures;
      hi_above = product_hi_above cut c.in_ok-lo.ensures c.in_ok-hi.ensures;
    }

pub multiply_halves-returns : goal.multiply_halves-returns
multiply_halves-returns t c =
    let cut = halved t (goal.at.multiply_halves-returns t c).After-halves in
    product_made cut c.in_ok-lo.ensures c.in_ok-hi.ensures c.make.new.self c.make.result c.make.ensures

pub multiply_with-multiply-requires : goal.multiply_with-multiply-requires
multiply_with-multiply-requires t c =
    let known = map_of c.args.self.now in
    let one = c.requires.first_known in
    let other = c.requires.second_known in
    let fewer = fewer_of_halves known known c.args.first c.args.second c.args.first.hi c.args.second.hi
    (λ r has. refl) one.0 one.1 other.0 other.1 (inr refl) (inr refl) in
    (omega (arith, fewer), record { sound = c.requires.sound; first = one.1; second = other.1 })

pub multiply_with-returns-in_err-both : goal.multiply_with-returns-in_err-both
multiply_with-returns-in_err-both t c =
    let at = c.requires in
    let p = err_from_is_err_and c.from_residual.result c.from_residual.ensures.1 in
    rw p.1 (both_full at c.in_err-both.ensures)

pub multiply_with-multiply-requires-2 : goal.multiply_with-multiply-requires-2
multiply_with-multiply-requires-2 t c =
    let at = c.requires in
    let next = first_next at c.in_ok-both.ensures in
    (let less = next.0 in omega (arith, less), next.1)

pub multiply_with-returns-in_err-one : goal.multiply_with-returns-in_err-one
multiply_with-returns-in_err-one t c =
    let at = c.requires in
    let p = err_from_is_err_and c.from_residual-in_err-one.result c.from_residual-in_err-one.ensures.1 in
    rw p.1 (first_full at c.in_ok-both.ensures c.in_err-one.ensures)

pub multiply_with-unite-requires : goal.multiply_with-unite-requires
multiply_with-unite-requires t c = record {
  sound = c.in_ok-one.ensures.on.went.sound;
  first = (both_known c.requires c.in_ok-both.ensures c.in_ok-one.ensures).0;
  second = c.in_ok-one.ensures.known.0;
}

pub multiply_with-returns-in_err-some : goal.multiply_with-returns-in_err-some
multiply_with-returns-in_err-some t c =
    let at = c.requires in
    let p = err_from_is_err_and c.from_residual-in_err-some.result c.from_residual-in_err-some.ensures.1 in
    rw p.1 (some_full at c.in_ok-both.ensures c.in_ok-one.ensures c.in_err-some.ensures)

pub multiply_with-multiply-requires-3 : goal.multiply_with-multiply-requires-3
multiply_with-multiply-requires-3 t c =
    let at = c.requires in
    let next = second_next at c.in_ok-both.ensures c.in_ok-one.ensures c.in_ok-some.ensures in
    (let less = next.0 in omega (arith, less), next.1)

pub multiply_with-returns-in_err-other : goal.multiply_with-returns-in_err-other
multiply_with-returns-in_err-other t c =
    let at = c.requires in
    let p = err_from_is_err_and c.from_residual-in_err-other.result c.from_residual-in_err-other.ensures.1 in
    rw p.1 (second_full at c.in_ok-both.ensures c.in_ok-one.ensures c.in_ok-some.ensures c.in_err-other.ensures)

pub multiply_with-unite-requires-2 : goal.multiply_with-unite-requires-2
multiply_with-unite-requires-2 t c = record {
  sound = c.in_ok-other.ensures.on.went.sound;
  first = (some_known c.requires c.in_ok-both.ensures c.in_ok-one.ensures c.in_ok-some.ensures c.in_ok-other.ensures).0;
  second = c.in_ok-other.ensures.known.0;
}

pub multiply_with-returns : goal.multiply_with-returns
multiply_with-returns t c =
    let at = c.requires in
    product_with at c.in_ok-both.ensures c.in_ok-one.ensures c.in_ok-some.ensures c.in_ok-other.ensures
    c.unite-2.new.self c.unite-2.result c.unite-2.ensures

pub multiply-multiply_halves-requires : goal.multiply-multiply_halves-requires
multiply-multiply_halves-requires t c =
    (omega arith, (c.requires, c.in_default.ensures))
