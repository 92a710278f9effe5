use Rattle.std.proofs.Common.{◌≡◌, length, ap, ◌∙◌, arith}
use Rattle.residual_ledger.specs.Kept.{residuals}
use Rattle.residual_ledger.proofs.LedgerLemmas.{as_many}
use Rattle.residual_ledger.proofs.SearchLemmas.{narrowed-first, narrowed-found, narrowed-none}
use Rattle.residual_ledger.proofs.ledger.Ledger.first_tight_after_all.Goals as goal

pub loop-unit-init : goal.loop-unit-init
loop-unit-init c =
    let out = c.args.self.now.out in
    let cuts = c.args.self.now.cuts in
    let counted : c.as_slice.result.now ≡ residuals out cuts =
    c.as_slice.ensures.value ∙ c.self.invariant.counted ∙ ap (λ v. residuals v.out v.cuts) c.self.view_is in
    narrowed-first cuts counted c.requires.in_service c.first_at_most-first.ensures

pub returns-then-first-len : goal.returns-then-first-len
returns-then-first-len c =
    let cuts = c.args.self.now.cuts in
    let many : length c.self.inside.counts.items ≡ length cuts =
    as_many c.self.inside.out c.self.inside.cuts c.self.invariant.counted
    ∙ ap (λ v. length v.cuts) c.self.view_is in
    narrowed-found cuts (omega arith) c.loop-unit.invariant (omega (arith, c.len.ensures))

pub returns-else-first-len : goal.returns-else-first-len
returns-else-first-len c =
    let cuts = c.args.self.now.cuts in
    let many : length c.self.inside.counts.items ≡ length cuts =
    as_many c.self.inside.out c.self.inside.cuts c.self.invariant.counted
    ∙ ap (λ v. length v.cuts) c.self.view_is in
    narrowed-none cuts (omega arith) c.loop-unit.invariant (omega (arith, c.len.ensures))
