use Rattle.outage_engine.proofs.Summing.{never_faulty}
use Rattle.outage_engine.proofs.laws.made_decks_have_no_fault.Goals as goal

pub returns : goal.returns
returns c number fault =
    let made = c.made_decks_are_well_made.ensures number in
    never_faulty made.1 fault
