pub mod Pieces
pub mod Ways
pub mod Merged
pub mod Explored
pub mod Visited
pub mod Left
pub mod Cycles
pub mod Closed
pub mod Ranked
pub mod Ordered
pub mod Work
pub mod Seal
pub mod Steps
pub mod Progress
pub mod Walking
pub mod Below
-- each graph has such marks and ranks
pub mod Surveys
-- the ranks of a graph without cycles are low
pub mod RankBound
