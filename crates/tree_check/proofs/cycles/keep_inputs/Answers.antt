use Rattle.std.proofs.Common.{arith, ◌≡◌, ℕ, Vec, Global, ap, sym, ◌∙◌, get_or}
use Rattle.std.specs.Prelude.{◌&&◌}
use Rattle.std.proofs.lemmas.Grind.{common_steps}
use Rattle.tree_check.specs.{declared.numbered.Numbered.Numbered, Numbered.is_fdep_in, Numbered.kinds}
use Rattle.tree_check.proofs.Edges.{kept_as, kept_one, dropped_one}
use Rattle.tree_check.proofs.cycles.keep_inputs.Goals.{then-drops, else-drops, Joined-not-is_fdep}
use Rattle.tree_check.proofs.cycles.keep_inputs.Goals.{then-not-is_fdep+in_ok-push, else-not-is_fdep}
use Rattle.tree_check.proofs.cycles.keep_inputs.Goals as goal

-- the next input
abbrev next : Joined-not-is_fdep → Numbered
next c =
    get_or c.as_slice-input-items.result.now c.loop-input.input-index
    (record { number = 0; place = record { line = 0; column = 0 } })

-- what was tested is whether it is dropped
tested : (c : Joined-not-is_fdep) → c.if-drops.value
    ≡ (c.drops_fdeps-drops.result && is_fdep_in c.args.units (kinds c.args.gates.now) (next c).number)
tested c =
    elim c.if-drops.branch [
      | then-drops v ↦ v.value-is ∙ v.is_fdep.ensures
          ∙ ap (λ b. b && is_fdep_in c.args.units (kinds c.args.gates.now) (next c).number) (sym v.if-drops.true)
      | else-drops v ↦ v.value-is ∙ v.if-drops.false
          ∙ ap (λ b. b && is_fdep_in c.args.units (kinds c.args.gates.now) (next c).number) (sym v.if-drops.false)
    ]

pub loop-input-preserved : goal.loop-input-preserved
loop-input-preserved c =
    elim c.if-not-is_fdep.branch [
      | then-not-is_fdep+in_ok-push w ↦ kept_one c.drops_fdeps-drops.result
          (is_fdep_in c.args.units (kinds c.args.gates.now))
          c.loop-input.input-index _ c.as_slice-input-items.ensures.items c.loop-input-test.true
          c.loop-input.invariant (sym (tested c) ∙ w.if-not-is_fdep.true)
          (ap (λ (row : Vec ℕ Global). row.items) w.row-is ∙ w.in_ok-push.ensures.items)
      | else-not-is_fdep w ↦ dropped_one c.drops_fdeps-drops.result (is_fdep_in c.args.units (kinds c.args.gates.now))
          c.loop-input.input-index _ c.as_slice-input-items.ensures.items c.loop-input-test.true
          c.loop-input.invariant (sym (tested c) ∙ w.if-not-is_fdep.false)
          (ap (λ (row : Vec ℕ Global). row.items) w.row-is)
    ]

pub returns : goal.returns
returns c =
    let same =
    kept_as c.drops_fdeps-drops.result (is_fdep_in c.args.units (kinds c.args.gates.now)) c.args.gate.now.inputs in
    grind (arith, common_steps)
