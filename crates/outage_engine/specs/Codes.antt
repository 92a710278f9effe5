-- The exit status of each status.
use Rattle.std.specs.Prelude.{ℕ}
use Rattle.outage_engine.specs.declared.status.Status.{Status}
use Rattle.outage_engine.specs.declared.status.Status.TheVariants.{Done, Refused, ListLimit, OrderLimit, Usage}
use Rattle.outage_engine.specs.declared.status.Status.TheVariants.{ReadFault, TooLong, WriteFault, NoMemory}

-- 0 for done, 1 for a fault of the deck or a limit, 2 for usage, 3 for the input, 4 for the sink, 5 for want of memory
abbrev pub code_of : Status → ℕ
code_of (Done method) = 0
code_of (Refused fault) = 1
code_of ListLimit = 1
code_of OrderLimit = 1
code_of Usage = 2
code_of ReadFault = 3
code_of TooLong = 3
code_of WriteFault = 4
code_of NoMemory = 5
