use Rattle.std.proofs.Common.{◌≡◌, ◌+◌, ℕ, List, length, get_or, take_at, ◌∙◌, arith}
use Rattle.std.proofs.lemmas.Grind.{common_steps}
use Rattle.unit_sets.specs.CutOrder.{weight_limit}
use Rattle.residual_ledger.specs.Holding.{HasSizes, HasStarts, HasRows, start_of}
use Rattle.residual_ledger.proofs.LedgerFacts.{few_cuts}
use Rattle.residual_ledger.proofs.FillingLemmas.{sizes-le, begun, all_filled}
use Rattle.residual_ledger.proofs.holding.Holding.new.Goals as goal

pub begin_rows-total-requires-clause-small : goal.begin_rows-total-requires-clause-small
begin_rows-total-requires-clause-small c =
    let cuts = c.args.cuts.now in
    rw c.as_mut_slice.ensures.value (sizes-le weight_limit cuts
    (omega (arith, few_cuts cuts, c.requires.ordered.within)) c.in_ok-ends.ensures)

pub put_sets-requires-clause-first : goal.put_sets-requires-clause-first
put_sets-requires-clause-first c =
    let cuts = c.args.cuts.now in
    let sizes : List ℕ = c.as_mut_slice.result.now in
    let begins : List ℕ = c.begin_rows-total.new.ends in
    let ends : List ℕ = c.as_mut_slice-3.result.now in
    let rows : List ℕ = c.as_mut_slice-2.result.now in
    let has : HasSizes c.args.units cuts sizes =
    rw c.as_mut_slice.ensures.value c.in_ok-ends.ensures in
    let same : ends ≡ begins = grind (arith, common_steps) in
    let long : length begins ≡ length sizes = c.begin_rows-total.auto.ends in
    let starts : HasStarts (λ k. get_or sizes k 0) begins = c.begin_rows-total.ensures.begins in
    let room : length rows ≡ start_of (λ k. get_or sizes k 0) (length sizes) =
    c.as_mut_slice-2.ensures.len ∙ c.in_ok-rows.ensures.len ∙ c.begin_rows-total.ensures.total in
    rw same (begun cuts begins rows has long starts room)

-- the two vectors as they are read again
written : {units : ℕ} (cuts : List (List ℕ)) {ends rows ends' rows' : List ℕ} → ends' ≡ ends → rows' ≡ rows
    → HasRows units cuts ends rows → HasRows units cuts ends' rows'
written cuts same_ends same_rows has = rw (same_ends, same_rows) has

pub returns : goal.returns
returns c =
    let ends : List ℕ = c.put_sets.new.ends in
    let rows : List ℕ = c.put_sets.new.rows in
    let long_ends : length ends ≡ c.in_ok-ends.ends.len =
    omega (arith, c.put_sets.auto.ends, c.as_mut_slice-3.ensures.len) in
    let long_rows : length rows ≡ c.in_ok-rows.rows.len =
    omega (arith, c.put_sets.auto.rows, c.as_mut_slice-2.ensures.len) in
    let all : length ends ≡ c.args.units + 1 = omega (arith, c.in_ok-ends.ensures.all) in
    written c.args.cuts.now (take_at ends _ _ long_ends) (take_at rows _ _ long_rows)
    (all_filled c.args.cuts.now all c.put_sets.ensures)
