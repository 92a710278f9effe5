-- the names of the made deck
pub mod Names
-- its statements, its crew and its bytes
pub mod MadeDeck
-- which tree and which crew it stands for
pub mod WellMade
