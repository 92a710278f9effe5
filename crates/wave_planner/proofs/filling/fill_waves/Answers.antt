use Rattle.std.proofs.Common.{◌<◌, ◌≡◌, length, refl, ◌∙◌, ap, arith}
use Rattle.residual_ledger.specs.Ledger.{LedgerView}
use Rattle.wave_planner.proofs.StepLemmas.{fewer_each_time, free_at_first, none_more, some_left, waves_begin, waves_end}
use Rattle.wave_planner.proofs.StepLemmas.{waves_go_on}
use Rattle.wave_planner.proofs.filling.fill_waves.Goals as goal
use Rattle.wave_planner.proofs.filling.fill_waves.Goals.{In_ok-next_wave}

pub loop-alloc-init : goal.loop-alloc-init
loop-alloc-init c = record {
  same = refl;
  begun =
      waves_begin c.requires.known c.requires.differ c.requires.alone c.in_ok-left.ensures.items c.requires.no_waves;
}

some : (c : In_ok-next_wave) → 0 < length c.loop-alloc.left.items
some c =
    let more : 0 < c.loop-alloc.left.len =
    some_left c.loop-alloc.left.len c.is_empty.ensures c.loop-alloc-test.true in
    omega arith

pub next_wave-requires-clause-free : goal.next_wave-requires-clause-free
next_wave-requires-clause-free c =
    let more : 0 < c.loop-alloc.left.len =
    some_left c.loop-alloc.left.len c.is_empty.ensures c.loop-alloc-test.true in
    free_at_first c.loop-alloc.left.items c.loop-alloc.ledger.cuts
    (ap (λ (v : LedgerView). v.cuts) c.loop-alloc.invariant.same) (omega arith) c.loop-alloc.invariant.begun

pub loop-alloc-preserved : goal.loop-alloc-preserved
loop-alloc-preserved c = record {
  same = c.in_ok-next_wave.ensures.ledger ∙ c.loop-alloc.invariant.same;
  begun =
      waves_go_on c.loop-alloc.ledger.cuts (ap (λ (v : LedgerView). v.cuts) c.loop-alloc.invariant.same)
      (some c) c.in_ok-next_wave.ensures.left
      c.in_ok-next_wave.ensures.waves c.loop-alloc.invariant.begun;
}

pub loop-alloc-smaller : goal.loop-alloc-smaller
loop-alloc-smaller c =
    fewer_each_time c.loop-alloc.left.items c.loop-alloc.ledger.cuts
    (ap (λ (v : LedgerView). v.cuts) c.loop-alloc.invariant.same)
    (some c) c.in_ok-next_wave.ensures.left c.loop-alloc.invariant.begun

pub returns : goal.returns
returns c =
    let all : c.loop-alloc.left.len ≡ 0 =
    none_more c.loop-alloc.left.len c.is_empty.ensures c.loop-alloc-test.false in
    waves_end (omega arith) c.loop-alloc.invariant.begun
