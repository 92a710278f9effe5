pub mod Parting
pub mod Bringing
pub mod Sending
pub mod CopiesLemmas
