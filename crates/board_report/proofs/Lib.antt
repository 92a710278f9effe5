-- shown names tell where they end
pub mod ShownNames
mod CrewNames
mod LogLemmas
mod BoardLemmas
mod UnitsOut
mod Pieces
mod PrintLemmas
mod PrintedTrees
mod SummaryLemmas
