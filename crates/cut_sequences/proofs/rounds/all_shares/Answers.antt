use Rattle.std.proofs.Common.{◌∙◌, ap, length}
use Rattle.std.proofs.{lemmas.List.length-map, lemmas.Result.IfOk-weaker}
use Rattle.cut_sequences.specs.declared.share.Work.{Work}
use Rattle.cut_sequences.proofs.RoundLemmas.{shares_at_end}
use Rattle.cut_sequences.proofs.rounds.all_shares.Goals as goal

pub all_rounds-requires-clause-at_work : goal.all_rounds-requires-clause-at_work
all_rounds-requires-clause-at_work g c κs within = c.in_ok-works.ensures.at_work c.args.sets c.requires.units

pub returns-clause-shares : goal.returns-clause-shares
returns-clause-shares g c =
    IfOk-weaker c.shares_of.result _ _ (λ shares is.
    shares_at_end c.in_ok-all_rounds.ensures.worked.at_work c.requires.end c.in_ok-all_rounds.ensures.worked.done is)
    c.shares_of.ensures.shares

pub returns-clause-workers : goal.returns-clause-workers
returns-clause-workers g c =
    IfOk-weaker c.shares_of.result _ _ (λ shares is.
    ap length is ∙ length-map c.in_ok-all_rounds.field-0.items (λ (work : Work). work.share)
    ∙ c.in_ok-all_rounds.ensures.worked.workers ∙ c.in_ok-works.ensures.workers) c.shares_of.ensures.shares
