pub mod Serving
pub mod ReadNodes
pub mod PathFamilies
pub mod PathLists
mod NodeAnswers
mod RootLemmas
mod SeatLemmas
mod EndLemmas
