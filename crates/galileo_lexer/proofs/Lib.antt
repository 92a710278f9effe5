pub mod Steps
pub mod Bools
pub mod Walks
pub mod Sound
pub mod Runs
pub mod Spelled
pub mod Places
