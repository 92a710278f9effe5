pub mod Seats
pub mod Told
pub mod Held
pub mod Due
pub mod Halves
pub mod Voting
