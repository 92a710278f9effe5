use Rattle.zdd_shared_table.proofs.Rounds.{round-onto, round-same}
use Rattle.zdd_shared_table.proofs.laws.places_meet_each_slot_once.Goals as goal

pub returns-clause-each : goal.returns-clause-each
returns-clause-each c = round-onto

pub returns-clause-once : goal.returns-clause-once
returns-clause-once c = round-same
