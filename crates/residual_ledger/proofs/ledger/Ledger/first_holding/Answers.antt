use Rattle.std.proofs.Common.{◌≡◌, ◌++◌, ℕ, Bool, List, get_or, true, sym, ◌∙◌, arith}
use Rattle.residual_ledger.specs.{Residual.cut_at, Tight.is_tight}
use Rattle.residual_ledger.proofs.SearchLemmas.{holding-stopped, holding-found}
use Rattle.residual_ledger.proofs.ledger.Ledger.first_holding.Goals as goal

pub returns-then-place-before : goal.returns-then-place-before
returns-then-place-before c =
    let self = c.args.self.now in
    let test : List ℕ → Bool = is_tight (c.args.asked.now ++ self.out) c.args.most in
    holding-stopped self.cuts c.holding-place-items.ensures c.loop-place.invariant c.requires.inside (λ _. omega arith)

pub returns-then-would_be_tight : goal.returns-then-would_be_tight
returns-then-would_be_tight c =
    let self = c.args.self.now in
    let test : List ℕ → Bool = is_tight (c.args.asked.now ++ self.out) c.args.most in
    let row = c.holding-place-items.result.now in
    let passes : test (cut_at self.cuts (get_or row c.loop-place.place-index 0)) ≡ true =
    sym c.would_be_tight.ensures ∙ c.if-would_be_tight.true in
    holding-found self.cuts c.holding-place-items.ensures c.loop-place.invariant c.requires.inside (omega arith) passes

pub returns : goal.returns
returns c =
    let self = c.args.self.now in
    let test : List ℕ → Bool = is_tight (c.args.asked.now ++ self.out) c.args.most in
    holding-stopped self.cuts
    c.holding-place-items.ensures c.loop-place.invariant c.requires.inside (λ h. absurd (omega arith))
