-- directed graphs and their cycles
pub mod Graph
-- the walk that finds them
pub mod Walk
pub mod State
