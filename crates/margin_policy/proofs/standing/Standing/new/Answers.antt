use Rattle.std.proofs.Common.{rules, ◌≡◌, ◌+◌, None, ap, sym, ◌∙◌}
use Rattle.std.proofs.lemmas.List.{length-replicate}
use Rattle.margin_policy.specs.Standing.{nothing_held}
use Rattle.margin_policy.proofs.HeldLemmas.{nothing_out}
use Rattle.margin_policy.proofs.standing.Standing.new.Goals as goal

pub invariant_of-result : goal.invariant_of-result
invariant_of-result c =
    let none : c.in_ok-held.held.items ≡ nothing_held c.args.units = search rules in
    rw none
    (record {
      whole = c.cuts.ensures.whole;
      all = length-replicate (c.args.units + 1) None ∙ ap (λ v. v.units + 1) (sym c.in_ok-ledger.ensures);
      same = ap (λ v. v.out) c.in_ok-ledger.ensures ∙ sym (nothing_out c.args.units);
      within = c.requires.margin;
    })
