use Rattle.std.proofs.Common.{◌∙◌, sym, ap, subst, inl, inr}
use Rattle.std.specs.Prelude.{nat_le}
use Rattle.fault_words.specs.declared.kind.GateKind.{GateKind}
use Rattle.replay_semantics.specs.{Failing.gate_fails, Failing.AsksSome, Table.step_in}
use Rattle.replay_semantics.proofs.FailingLemmas.{latest-some, earliest-some, votes-some}
use Rattle.replay_semantics.proofs.steps.gate_fails.Goals as goal

pub returns-in-And : goal.returns-in-And
returns-in-And c =
    let of = λ (kind : GateKind). gate_fails kind (step_in c.args.steps.now) c.args.inputs.now in
    let all = c.all_failed.ensures ∙ sym (latest-some (step_in c.args.steps.now) c.args.inputs.now) in
    elim c.in-And.is [
      | inl is ↦ all ∙ ap of (sym is)
      | inr others ↦ elim others [
        | inl is ↦ all ∙ ap of (sym is)
        | inr others ↦ elim others [
          | inl is ↦ all ∙ ap of (sym is)
          | inr others ↦ elim others [ inl is ↦ all ∙ ap of (sym is) | inr is ↦ all ∙ ap of (sym is) ]
        ]
      ]
    ]

pub returns-in-Or : goal.returns-in-Or
returns-in-Or c =
    c.any_failed.ensures ∙ sym (earliest-some (step_in c.args.steps.now) c.args.inputs.now)
    ∙ ap (λ (kind : GateKind). gate_fails kind (step_in c.args.steps.now) c.args.inputs.now) (sym c.in-Or.is)

pub returns-in-Votes : goal.returns-in-Votes
returns-in-Votes c =
    ap (nat_le c.in-Votes.least) c.count_failed.ensures
    ∙ sym (votes-some (step_in c.args.steps.now) c.in-Votes.least c.args.inputs.now
    (subst AsksSome c.in-Votes.is c.requires.some))
    ∙ ap (λ (kind : GateKind). gate_fails kind (step_in c.args.steps.now) c.args.inputs.now) (sym c.in-Votes.is)
