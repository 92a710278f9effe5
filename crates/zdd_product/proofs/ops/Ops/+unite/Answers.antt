use Rattle.std.proofs.Common.{ℕ, ◌≢◌, ◌⊎◌, ◌≤◌, arith}
use Rattle.std.proofs.lemmas.Result.{err_from_is_err_and}
use Rattle.zdd_families.specs.{Due.GoesOn, Map.family}
use Rattle.zdd_shared_table.specs.Seats.{map_of}
use Rattle.kept_answers.specs.declared.answers.Operation.TheVariants.{Union}
use Rattle.zdd_product.specs.Due.{IsMadeByUnion}
use Rattle.zdd_product.proofs.{Entries.told_made, After.Gave-known, UnionParts.union_ends}
use Rattle.zdd_product.proofs.{ops.Ops.+unite.Goals.unite_halves-After-halves-level}
use Rattle.zdd_product.proofs.Halved.{Halved, los_next, his_next}
use Rattle.zdd_product.proofs.UnionSteps.{union_halved, union_lo_full, union_lo_on, union_hi_full, union_lo_known}
use Rattle.zdd_product.proofs.UnionSteps.{union_lo_above, union_hi_above, union_made}
use Rattle.zdd_product.proofs.ops.Ops.+unite.Goals as goal

inner_one : {a b : ℕ} → a ≢ 0 → b ≢ 0 → a ≢ b → (2 ≤ a) ⊎ (2 ≤ b)
inner_one some some' differ = grind arith

pub unite-returns-in-Some : goal.unite-returns-in-Some
unite-returns-in-Some t c =
    let known = map_of c.args.self.now in
    Gave-known (IsMadeByUnion (family known c.args.a) (family known c.args.b)) c.args.self.now c.requires.sound
    (union_ends known c.args.a c.args.b c.in-Some.end c.requires.sound.closed c.requires.first
    c.requires.second c.in-Some.ensures)

pub unite-returns-in-Some-recall : goal.unite-returns-in-Some-recall
unite-returns-in-Some-recall t c =
    let known = map_of c.args.self.now in
    Gave-known (IsMadeByUnion (family known c.args.a) (family known c.args.b)) c.args.self.now c.requires.sound
    (c.in-Some-recall.ensures.answer, c.in-Some-recall.ensures.is)

pub unite-remember-requires : goal.unite-remember-requires
unite-remember-requires t c =
    let known = map_of c.args.self.now in
    told_made Union c.args.a c.args.b c.requires.sound c.requires.first c.requires.second c.in_ok-made.ensures

-- both references were cut
halved : (t : ℕ) (c : unite_halves-After-halves-level t) → Halved GoesOn c.halves-level.new.self c.args.self.now
    c.args.a c.args.b c.halves-level.result
halved t c =
    union_halved c.halves-level.ensures.seat c.halves-level.ensures.sound c.halves-level.ensures.halves
    c.requires.both.first c.requires.both.second c.requires.goes_on

pub unite_halves-returns-in_err-lo : goal.unite_halves-returns-in_err-lo
unite_halves-returns-in_err-lo t c =
    let cut = halved t (goal.at.unite_halves-returns-in_err-lo t c).After-halves-level in
    let p = err_from_is_err_and c.from_residual.result c.from_residual.ensures.1 in
    rw p.1 (union_lo_full cut c.in_err-lo.ensures)

pub unite_halves-unite-requires-2 : goal.unite_halves-unite-requires-2
unite_halves-unite-requires-2 t c =
    let cut = halved t (goal.at.unite_halves-unite-requires-2 t c).After-halves-level in
    let next = his_next cut (union_lo_on cut c.in_ok-lo.ensures) in
    (let less = next.0 in omega (arith, less), next.1)

pub unite_halves-returns-in_err-hi : goal.unite_halves-returns-in_err-hi
unite_halves-returns-in_err-hi t c =
    let cut = halved t (goal.at.unite_halves-returns-in_err-hi t c).After-halves-level in
    let p = err_from_is_err_and c.from_residual-in_err-hi.result c.from_residual-in_err-hi.ensures.1 in
    rw p.1 (union_hi_full cut c.in_ok-lo.ensures c.in_err-hi.ensures)

pub unite_halves-make-requires : goal.unite_halves-make-requires
unite_halves-make-requires t c =
    let cut = halved t (goal.at.unite_halves-make-requires t c).After-halves-level in
    record {
      sound = c.in_ok-hi.ensures.on.went.sound;
      knows_lo = (union_lo_known cut c.in_ok-lo.ensures c.in_ok-hi.ensures).0;
      knows_hi = c.in_ok-hi.ensures.known.0;
      lo_above = union_lo_above cut c.in_ok-lo.ensures c.in_ok-hi.ensures;
      hi_above = union_hi_above cut c.in_ok-lo.ensures c.in_ok-hi.ensures;
    }

pub unite_halves-returns : goal.unite_halves-returns
unite_halves-returns t c =
    let cut = halved t (goal.at.unite_halves-returns t c).After-halves-level in
    union_made cut c.in_ok-lo.ensures c.in_ok-hi.ensures c.make.new.self c.make.result c.make.ensures

pub unite_halves-halves-level-requires-clause-some : goal.unite_halves-halves-level-requires-clause-some
unite_halves-halves-level-requires-clause-some t c =
    inner_one c.requires.goes_on.0 c.requires.goes_on.1 c.requires.goes_on.2

pub unite_halves-unite-requires : goal.unite_halves-unite-requires
unite_halves-unite-requires t c =
    let next = los_next (halved t (goal.at.unite_halves-unite-requires t c).After-halves-level) in
    (let less = next.0 in omega (arith, less), next.1)
