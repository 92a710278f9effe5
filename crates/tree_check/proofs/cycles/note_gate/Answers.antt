use Rattle.tree_check.proofs.TriggerRows.{dependents_low}
use Rattle.tree_check.proofs.cycles.note_gate.Goals as goal

pub note-requires : goal.note-requires
note-requires c =
    dependents_low _ c.args.gate.now c.in-Fdep-len1-up.is-0 c.as_slice.ensures.items
    c.in-Fdep-len1-up.len_at_least c.requires
