mod SeatLemmas
mod TableLemmas
mod PlaceLemmas
mod OwnLemmas
mod TeamLemmas
mod WorkerLemmas
pub mod OwnReferences
