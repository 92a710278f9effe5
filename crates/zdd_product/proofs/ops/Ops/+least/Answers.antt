use Rattle.std.proofs.Common.{ℕ, ◌<◌, inl, arith}
use Rattle.std.proofs.lemmas.Result.{err_from_is_err_and}
use Rattle.zdd_families.specs.Map.{family}
use Rattle.zdd_shared_table.specs.Seats.{map_of}
use Rattle.kept_answers.specs.declared.answers.Operation.TheVariants.{Minimal}
use Rattle.zdd_product.specs.Due.{IsMadeByMinimal}
use Rattle.zdd_product.proofs.{Entries.told_made, After.Gave-known}
use Rattle.zdd_product.proofs.{ops.Ops.+least.Goals.least_halves-After-split_node-level}
use Rattle.zdd_product.proofs.MinimalSteps.{minimal_ends, IsParted, parted, minimal_lo_next, minimal_lo_full}
use Rattle.zdd_product.proofs.MinimalSteps.{minimal_hi_next, minimal_hi_full, minimal_lo_known, minimal_rest_full}
use Rattle.zdd_product.proofs.MinimalSteps.{minimal_lo_knows, minimal_lo_above, minimal_hi_above, minimal_made}
use Rattle.zdd_product.proofs.ops.Ops.+least.Goals as goal

pub least-returns-then-number-lt2 : goal.least-returns-then-number-lt2
least-returns-then-number-lt2 t c =
    let known = map_of c.args.self.now in
    let small : c.args.a < 2 = let e = c.number.ensures.value in let h = c.if-number-lt2.true in omega (arith, e, h) in
    Gave-known (IsMadeByMinimal (family known c.args.a)) c.args.self.now c.is_sound.ensures.sound
    (minimal_ends known c.args.a small)

pub least-returns-in-Some : goal.least-returns-in-Some
least-returns-in-Some t c =
    let known = map_of c.args.self.now in
    Gave-known (IsMadeByMinimal (family known c.args.a)) c.args.self.now c.is_sound.ensures.sound
    (c.in-Some.ensures.answer, c.in-Some.ensures.is)

pub least-remember-requires : goal.least-remember-requires
least-remember-requires t c =
    let known = map_of c.args.self.now in
    told_made Minimal c.args.a 0 c.is_sound.ensures.sound c.requires (inl (omega arith)) c.in_ok-made.ensures

-- the reference was split
split : (t : ℕ) (c : least_halves-After-split_node-level t) → IsParted c.split_node-level.new.self c.args.self.now
    c.args.a c.split_node-level.result.level c.split_node-level.result.half
split t c =
    let is = c.split_node-level.ensures in
    parted is.seat is.sound is.unit is.half is.split c.requires.knows c.requires.inner

pub least_halves-returns-in_err-lo : goal.least_halves-returns-in_err-lo
least_halves-returns-in_err-lo t c =
    let cut = split t (goal.at.least_halves-returns-in_err-lo t c).After-split_node-level in
    let p = err_from_is_err_and c.from_residual.result c.from_residual.ensures.1 in
    rw p.1 (minimal_lo_full cut c.in_err-lo.ensures)

pub least_halves-least-requires-2 : goal.least_halves-least-requires-2
least_halves-least-requires-2 t c =
    let cut = split t (goal.at.least_halves-least-requires-2 t c).After-split_node-level in
    let next = minimal_hi_next cut c.in_ok-lo.ensures in
    (let less = next.0 in omega (arith, less), next.1)

pub least_halves-returns-in_err-high : goal.least_halves-returns-in_err-high
least_halves-returns-in_err-high t c =
    let cut = split t (goal.at.least_halves-returns-in_err-high t c).After-split_node-level in
    let p = err_from_is_err_and c.from_residual-in_err-high.result c.from_residual-in_err-high.ensures.1 in
    rw p.1 (minimal_hi_full cut c.in_ok-lo.ensures c.in_err-high.ensures)

pub least_halves-strip_least-requires : goal.least_halves-strip_least-requires
least_halves-strip_least-requires t c =
    let cut = split t (goal.at.least_halves-strip_least-requires t c).After-split_node-level in
    let low = minimal_lo_known cut c.in_ok-lo.ensures c.in_ok-high.ensures in
    record {
      both = record {
        sound = c.in_ok-high.ensures.on.went.sound;
        first = c.in_ok-high.ensures.known.0;
        second = low.0;
      };
      least = low.1;
    }

pub least_halves-returns-in_err-hi : goal.least_halves-returns-in_err-hi
least_halves-returns-in_err-hi t c =
    let cut = split t (goal.at.least_halves-returns-in_err-hi t c).After-split_node-level in
    let p = err_from_is_err_and c.from_residual-in_err-hi.result c.from_residual-in_err-hi.ensures.1 in
    rw p.1 (minimal_rest_full cut c.in_ok-lo.ensures c.in_ok-high.ensures c.in_err-hi.ensures)

pub least_halves-make-requires : goal.least_halves-make-requires
least_halves-make-requires t c =
    let cut = split t (goal.at.least_halves-make-requires t c).After-split_node-level in
    record {
      sound = c.in_ok-hi.ensures.on.went.sound;
      knows_lo = minimal_lo_knows cut c.in_ok-lo.ensures c.in_ok-high.ensures c.in_ok-hi.ensures;
      knows_hi = c.in_ok-hi.ensures.known.0;
      lo_above = minimal_lo_above cut c.in_ok-lo.ensures c.in_ok-high.ensures c.in_ok-hi.ensures;
      hi_above = minimal_hi_above cut c.in_ok-lo.ensures c.in_ok-high.ensures c.in_ok-hi.ensures;
    }

pub least_halves-returns : goal.least_halves-returns
least_halves-returns t c =
    let cut = split t (goal.at.least_halves-returns t c).After-split_node-level in
    minimal_made cut c.in_ok-lo.ensures c.in_ok-high.ensures c.in_ok-hi.ensures c.make.new.self c.make.result
    c.make.ensures

pub least_halves-least-requires : goal.least_halves-least-requires
least_halves-least-requires t c =
    let cut = split t (goal.at.least_halves-least-requires t c).After-split_node-level in
    let next = minimal_lo_next cut in
    (let less = next.0 in omega (arith, less), next.1)
