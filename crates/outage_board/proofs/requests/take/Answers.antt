use Rattle.std.proofs.Common.{sym, ◌∙◌, ap}
use Rattle.margin_policy.specs.declared.request.Request.TheVariants.{Take}
use Rattle.outage_board.proofs.TakeLemmas.{parts_may_be_asked, parts_are, not_refused}
use Rattle.outage_board.proofs.requests.take.Goals as goal

pub unreachable-requires : goal.unreachable-requires
unreachable-requires c =
    not_refused c.in-None.ensures.valid (parts_may_be_asked c.args.tree.now
    c.as_slice-names.ensures.names (c.as_slice.ensures.value ∙ c.in_ok-gather.ensures)
    (c.len.ensures ∙ sym c.as_slice.ensures.len) c.as_slice-names.ensures.form)

pub returns : goal.returns
returns c =
    ap Take (parts_are c.args.tree.now
    c.as_slice-names.ensures.names (c.as_slice.ensures.value ∙ c.in_ok-gather.ensures)
    (c.len.ensures ∙ sym c.as_slice.ensures.len) c.in-Some.ensures.value)
