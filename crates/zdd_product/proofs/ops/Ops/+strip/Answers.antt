use Rattle.std.proofs.Common.{ℕ, ◌≢◌, sym, ◌∙◌, subst, inl, arith}
use Rattle.std.proofs.lemmas.Result.{err_from_is_err_and}
use Rattle.zdd_families.specs.{Without.IsWithout, Map.family}
use Rattle.zdd_shared_table.specs.Seats.{Seated, map_of}
use Rattle.kept_answers.specs.declared.answers.Operation.TheVariants.{Without}
use Rattle.zdd_product.specs.{Due.IsMadeByWithout, Seats.Gave}
use Rattle.zdd_product.proofs.{Entries.told_made, After.Gave-known, WithoutParts.without_ends}
use Rattle.zdd_product.proofs.{ops.Ops.+strip.Goals.strip_halves-After-halves}
use Rattle.zdd_product.proofs.Halved.{Halved, AreInner, inner_halved, los_next, his_next}
use Rattle.zdd_product.proofs.WithoutSteps.{without_lo_full, without_lo_on, without_hi_full, without_rest_next}
use Rattle.zdd_product.proofs.WithoutSteps.{without_rest_full, without_lo_knows, without_lo_above, without_hi_above}
use Rattle.zdd_product.proofs.WithoutSteps.{without_made}
use Rattle.zdd_product.proofs.ops.Ops.+strip.Goals as goal

pub strip-returns-in-Some : goal.strip-returns-in-Some
strip-returns-in-Some t c =
    let known = map_of c.args.self.now in
    Gave-known (IsMadeByWithout (family known c.args.a) (family known c.args.b)) c.args.self.now c.requires.sound
    (without_ends known c.args.a c.args.b c.in-Some.end c.requires.sound.closed c.requires.first
    c.in-Some.ensures)

pub strip-returns-in-Some-recall : goal.strip-returns-in-Some-recall
strip-returns-in-Some-recall t c =
    let known = map_of c.args.self.now in
    Gave-known (IsMadeByWithout (family known c.args.a) (family known c.args.b)) c.args.self.now c.requires.sound
    (c.in-Some-recall.ensures.answer, c.in-Some-recall.ensures.is)

pub strip-remember-requires : goal.strip-remember-requires
strip-remember-requires t c =
    let known = map_of c.args.self.now in
    told_made Without c.args.a c.args.b c.requires.sound c.requires.first c.requires.second c.in_ok-made.ensures

-- both references were cut
halved : (t : ℕ) (c : strip_halves-After-halves t) → Halved AreInner c.halves.new.self c.args.self.now c.args.a
    c.args.b c.halves.result
halved t c =
    inner_halved c.halves.ensures.seat c.halves.ensures.sound c.halves.ensures.halves c.requires.both.first
    c.requires.both.second c.requires.inner

pub strip_halves-returns-in_err-lo : goal.strip_halves-returns-in_err-lo
strip_halves-returns-in_err-lo t c =
    let cut = halved t (goal.at.strip_halves-returns-in_err-lo t c).After-halves in
    let p = err_from_is_err_and c.from_residual.result c.from_residual.ensures.1 in
    rw p.1 (without_lo_full cut c.in_err-lo.ensures)

pub strip_halves-strip-requires-2 : goal.strip_halves-strip-requires-2
strip_halves-strip-requires-2 t c =
    let cut = halved t (goal.at.strip_halves-strip-requires-2 t c).After-halves in
    let next = his_next cut (without_lo_on cut c.in_ok-lo.ensures) in
    (let less = next.0 in omega (arith, less), next.1)

pub strip_halves-returns-in_err-some : goal.strip_halves-returns-in_err-some
strip_halves-returns-in_err-some t c =
    let cut = halved t (goal.at.strip_halves-returns-in_err-some t c).After-halves in
    let p = err_from_is_err_and c.from_residual-in_err-some.result c.from_residual-in_err-some.ensures.1 in
    rw p.1 (without_hi_full cut c.in_ok-lo.ensures c.in_err-some.ensures)

pub strip_halves-strip-requires-3 : goal.strip_halves-strip-requires-3
strip_halves-strip-requires-3 t c =
    let cut = halved t (goal.at.strip_halves-strip-requires-3 t c).After-halves in
    let next = without_rest_next cut c.in_ok-lo.ensures c.in_ok-some.ensures in
    (let less = next.0 in omega (arith, less), next.1)

pub strip_halves-returns-in_err-hi : goal.strip_halves-returns-in_err-hi
strip_halves-returns-in_err-hi t c =
    let cut = halved t (goal.at.strip_halves-returns-in_err-hi t c).After-halves in
    let p = err_from_is_err_and c.from_residual-in_err-hi.result c.from_residual-in_err-hi.ensures.1 in
    rw p.1 (without_rest_full cut c.in_ok-lo.ensures c.in_ok-some.ensures c.in_err-hi.ensures)

pub strip_halves-make-requires : goal.strip_halves-make-requires
strip_halves-make-requires t c =
    let cut = halved t (goal.at.strip_halves-make-requires t c).After-halves in
    record {
      sound = c.in_ok-hi.ensures.on.went.sound;
      knows_lo = without_lo_knows cut c.in_ok-lo.ensures c.in_ok-some.ensures c.in_ok-hi.ensures;
      knows_hi = c.in_ok-hi.ensures.known.0;
      lo_above = without_lo_above cut c.in_ok-lo.ensures c.in_ok-some.ensures c.in_ok-hi.ensures;
      hi_above = without_hi_above cut c.in_ok-lo.ensures c.in_ok-some.ensures c.in_ok-hi.ensures;
    }

pub strip_halves-returns : goal.strip_halves-returns
strip_halves-returns t c =
    let cut = halved t (goal.at.strip_halves-returns t c).After-halves in
    without_made cut c.in_ok-lo.ensures c.in_ok-some.ensures c.in_ok-hi.ensures c.make.new.self c.make.result
    c.make.ensures

pub strip-returns-then-number-eq1 : goal.strip-returns-then-number-eq1
strip-returns-then-number-eq1 t c =
    let known = map_of c.args.self.now in
    let is = IsWithout (family known c.args.a) (family known c.args.b) in
    let due = IsMadeByWithout (family known c.args.a) (family known c.args.b) in
    subst (λ (q : Seated). Gave is due c.args.self.now q c.strip_unit.result) (sym c.strip_unit.ensures.seat)
    (Gave-known due c.args.self.now c.requires.sound {is = is} {r = c.strip_unit.result} c.strip_unit.ensures.known)

pub strip_halves-halves-requires-clause-some : goal.strip_halves-halves-requires-clause-some
strip_halves-halves-requires-clause-some t c = inl c.requires.inner.0

pub strip_halves-strip-requires : goal.strip_halves-strip-requires
strip_halves-strip-requires t c =
    let next = los_next (halved t (goal.at.strip_halves-strip-requires t c).After-halves) in
    (let less = next.0 in omega (arith, less), next.1)

pub strip-strip_halves-requires : goal.strip-strip_halves-requires
strip-strip_halves-requires t c =
    let ends = c.in_default.ensures in
    let low = ends.0 in
    let other : c.args.a ≢ 1 = λ is. c.if-number-eq1.false (c.number.ensures.value ∙ is) in
    (omega arith, (c.requires, (omega (arith, low, other), ends.1)))
