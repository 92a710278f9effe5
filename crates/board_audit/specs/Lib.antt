-- how far a log agrees with its deck
pub mod Verdicts
-- pieces of a text
pub mod Pieces
-- the crew of a line
pub mod Front
-- the line that has to come next
pub mod Reading
