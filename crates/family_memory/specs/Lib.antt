pub mod Memory
pub mod Answers
pub mod Extents
pub mod Kept
pub mod Rests
pub mod Search
