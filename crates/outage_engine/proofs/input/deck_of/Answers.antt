use Rattle.std.proofs.Common.{subst}
use Rattle.deck_reading.specs.Faults.{IsDeckFault}
use Rattle.outage_engine.proofs.input.deck_of.Goals as goal

pub returns-in-Err-Fault-clause-refused : goal.returns-in-Err-Fault-clause-refused
returns-in-Err-Fault-clause-refused c =
    subst (λ bytes. IsDeckFault c.args.part bytes c.in-Err-Fault.fault) c.as_slice.ensures.value
    (rw c.in-Err-Fault.field-0-is at c.in-Err-Fault.ensures.end)
