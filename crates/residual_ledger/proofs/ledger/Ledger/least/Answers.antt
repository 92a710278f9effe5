use Rattle.std.proofs.Common.{◌≡◌, List, ap, subst, sym, ◌∙◌}
use Rattle.residual_ledger.specs.Kept.{residuals, HasLeast}
use Rattle.residual_ledger.proofs.BlockLemmas.{HasLeast-lowest}
use Rattle.residual_ledger.proofs.ledger.Ledger.least.Goals as goal

pub returns : goal.returns
returns c =
    let inside = c.self.inside in
    let counted : inside.counts.items ≡ residuals c.args.self.now.out c.args.self.now.cuts =
    c.self.invariant.counted ∙ ap (λ v. residuals v.out v.cuts) c.self.view_is in
    subst (λ (n : List _). HasLeast n c.as_slice.result.now) counted
    (subst (λ (n : List _). HasLeast inside.counts.items n) (sym c.as_slice.ensures.value)
    (HasLeast-lowest c.self.invariant.blocks))
