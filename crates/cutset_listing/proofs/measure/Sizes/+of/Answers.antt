use Rattle.std.proofs.Common.{◌≢◌, ◌∙◌, ℕ, [], subst, arith}
use Rattle.std.specs.Prelude.{Err, IsErrOf}
use Rattle.std.proofs.{lemmas.Grind.common_steps, lemmas.Result.err_from_is_err_and}
use Rattle.unit_sets.specs.declared.refusal.ListEnd.{ListEnd}
use Rattle.zdd_families.specs.Map.{family}
use Rattle.zdd_families.proofs.Canonical.{family-filled}
use Rattle.zdd_shared_table.specs.Seats.{map_of}
use Rattle.cutset_listing.proofs.Measuring.{IsParted, both_heavy, empty_size, few_sets, hi_heavy, hi_less}
use Rattle.cutset_listing.proofs.Measuring.{lo_less, sized_of_parts, unit_size}
use Rattle.cutset_listing.proofs.measure.Sizes.+of.Goals.{of_parts-After-parts-parts}
use Rattle.cutset_listing.proofs.measure.Sizes.+of.Goals as goal

pub of-returns-then-eq-clause-size : goal.of-returns-then-eq-clause-size
of-returns-then-eq-clause-size t c = empty_size _ c.args.r (grind (arith, common_steps))

pub of-returns-then-eq-2-clause-size : goal.of-returns-then-eq-2-clause-size
of-returns-then-eq-2-clause-size t c = unit_size _ c.args.r (grind (arith, common_steps))

-- an error of one result is that of another
same_end : {A B : Type 0} (end why : ListEnd) → IsErrOf {T = A} (Err end) why → IsErrOf {T = B} (Err end) why
same_end end why is = cc

-- the node was parted
parted : (t : ℕ) (c : of_parts-After-parts-parts t) → IsParted (map_of c.args.seat.now) c.args.r
    c.parts-parts.result.level c.parts-parts.result.lo c.parts-parts.result.hi
parted t c =
    let seat = c.parts-parts.ensures.seat in
    record {
      branch = rw seat at c.parts-parts.ensures.branch;
      filled =
          subst (λ it. family (map_of it) c.parts-parts.result.hi ≢ []) seat
          (family-filled (map_of c.parts-parts.new.seat) c.parts-parts.result.hi c.parts-parts.ensures.sound.closed
          c.parts-parts.ensures.hi.0 c.parts-parts.ensures.filled);
    }

pub of_parts-of-requires : goal.of_parts-of-requires
of_parts-of-requires t c =
    let seat = c.parts-parts.ensures.seat in
    let less = lo_less (parted t (goal.at.of_parts-of-requires t c).After-parts-parts) in
    rw seat (
      omega (arith, less),
      (record { own = c.requires.node.own; knows = rw seat at c.parts-parts.ensures.lo.0 }, c.requires.found),
    )

pub of_parts-of-requires-2 : goal.of_parts-of-requires-2
of_parts-of-requires-2 t c =
    let seat = c.parts-parts.ensures.seat in
    let same = c.in_ok-lo.ensures.seat ∙ seat in
    let less = hi_less (parted t (goal.at.of_parts-of-requires-2 t c).After-parts-parts) in
    rw same (
      omega (arith, less),
      (
        record { own = c.requires.node.own; knows = rw seat at c.parts-parts.ensures.hi.0 },
        rw seat at c.in_ok-lo.ensures.found,
      ),
    )

pub of_parts-returns-in_err-hi-clause-limit : goal.of_parts-returns-in_err-hi-clause-limit
of_parts-returns-in_err-hi-clause-limit t c =
    let seat = c.parts-parts.ensures.seat in
    let same = c.in_ok-lo.ensures.seat ∙ seat in
    let p = err_from_is_err_and c.from_residual-in_err-hi.result c.from_residual-in_err-hi.ensures.1 in
    rw (p.1, p.2) (λ refused. hi_heavy (parted t
    (goal.at.of_parts-returns-in_err-hi-clause-limit t c).After-parts-parts)
    (rw same at c.in_err-hi.ensures.limit (same_end _ _ refused)))

pub of_parts-branch_size-requires-clause-sets : goal.of_parts-branch_size-requires-clause-sets
of_parts-branch_size-requires-clause-sets t c =
    let seat = c.parts-parts.ensures.seat in
    let same = c.in_ok-lo.ensures.seat ∙ seat in
    few_sets (parted t (goal.at.of_parts-branch_size-requires-clause-sets t c).After-parts-parts)
    c.in_ok-lo.lo c.in_ok-hi.hi (rw seat at c.in_ok-lo.ensures.size) (rw same at c.in_ok-hi.ensures.size)

pub of_parts-returns-clause-size : goal.of_parts-returns-clause-size
of_parts-returns-clause-size t c =
    let seat = c.parts-parts.ensures.seat in
    let same = c.in_ok-lo.ensures.seat ∙ seat in
    sized_of_parts (parted t (goal.at.of_parts-returns-clause-size t c).After-parts-parts)
    c.in_ok-lo.lo c.in_ok-hi.hi (rw seat at c.in_ok-lo.ensures.size)
    (rw same at c.in_ok-hi.ensures.size) c.branch_size.result c.branch_size.ensures.sets c.branch_size.ensures.weight
    c.branch_size.ensures.within

pub of_parts-returns-clause-limit : goal.of_parts-returns-clause-limit
of_parts-returns-clause-limit t c =
    let seat = c.parts-parts.ensures.seat in
    let same = c.in_ok-lo.ensures.seat ∙ seat in
    λ refused. both_heavy (parted t (goal.at.of_parts-returns-clause-limit t c).After-parts-parts)
    c.in_ok-lo.lo c.in_ok-hi.hi (rw seat at c.in_ok-lo.ensures.size)
    (rw same at c.in_ok-hi.ensures.size) (c.branch_size.ensures.limit refused)
