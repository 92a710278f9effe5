use Rattle.std.proofs.Common.{◌≡◌, [], refl}
use Rattle.residual_ledger.specs.{Ledger.IsLedgerFor}
use Rattle.residual_ledger.proofs.ledger.Ledger.new.Goals as goal

pub invariant_of-result : goal.invariant_of-result
invariant_of-result c =
    let copied : c.in_ok-cuts.cuts ≡ c.args.cuts.now = c.in_ok-cuts.ensures in
    let none : c.in_ok-out.out ≡ [] = c.in_ok-out.ensures in
    let whole : IsLedgerFor c.args.units c.args.cuts.now =
    record { limit = c.requires.limit; ordered = c.len.ensures.ordered; known = c.requires.known } in
    rw (copied, none)
    (record {
      whole = whole;
      counted = c.in_ok-counts.ensures;
      blocks = rw c.as_slice.ensures.value at c.in_ok-blocks.ensures;
      rows_of_units = c.in_ok-holding.ensures;
    })

pub returns : goal.returns
returns c =
    let copied : c.in_ok-cuts.cuts ≡ c.args.cuts.now = c.in_ok-cuts.ensures in
    let none : c.in_ok-out.out ≡ [] = c.in_ok-out.ensures in
    rw (copied, none) refl
