use Rattle.std.proofs.Common.{◌≡◌, ◌%◌, ◌^◌, ◌∙◌, ap, max, arith}
use Rattle.std.proofs.lemmas.Nat.{mod_below, one_shl}
use Rattle.family_memory.proofs.Marks.{hi_marked, lo_marked, own_marked, shared_by_hi, shared_by_lo}
use Rattle.family_memory.proofs.Sizes.{extent-branch}
use Rattle.family_memory.proofs.extents.Extent.of_node.Goals as goal

pub returns-clause-extent : goal.returns-clause-extent
returns-clause-extent c f g is is' filled =
    let mark = c.args.level % 64 in
    let only : _ ≡ 2 ^ mark =
    one_shl (c.number.result % 64) 64 (mod_below c.number.result 64 (omega arith))
    ∙ ap (λ n. 2 ^ (n % 64)) c.number.ensures.value in
    extent-branch c.args.level _ is is' filled (c.max-2.ensures ∙ ap (λ n. max n c.args.hi.last)
    (c.max.ensures ∙ ap (λ n. max n c.args.lo.last) c.number-2.ensures.value))
    (let e = c.min.ensures in omega (arith, e))
    (let e = c.min.ensures in let m = c.max-3.ensures in let n = c.number-3.ensures.value in omega (arith, e, m, n))
    (let e = c.min-2.ensures in omega (arith, e))
    (let e = c.min-2.ensures in let s = c.saturating_add.ensures in omega (arith, e, s))
    (let e = c.max-4.ensures in omega (arith, e))
    (λ few. let e = c.max-4.ensures in let s = c.saturating_add-2.ensures in omega (arith, e, s, few))
    (own_marked c.args.lo.units c.args.hi.units mark only) (lo_marked c.args.lo.units c.args.hi.units mark only)
    (hi_marked c.args.lo.units c.args.hi.units mark only) (shared_by_lo c.args.lo.common c.args.hi.common mark only)
    (shared_by_hi c.args.lo.common c.args.hi.common mark only)
