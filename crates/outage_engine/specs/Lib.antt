-- exit statuses
pub mod Codes
-- how the cut sets of a tree were found, and what a seat knows then
pub mod Store
-- what may be asked of a run, and the seat that it needs
pub mod Means
-- what is found in a deck for a command
pub mod Finding
-- the texts of commands
pub mod Texts
-- what a planner may rely on
pub mod Safety
-- which status comes with which text
pub mod Gives
-- what a run does to a seat
pub mod StoreAfter
-- what a run is known to have done, and the clauses of a run
pub mod Runs
-- an answer before it is written
pub mod Answers
-- a board that is opened, and what came of it
pub mod Openings
-- a made deck in sum
pub mod Summaries
-- how large a store a command gets
pub mod StoreSize
