mod Bits
pub mod WordLemmas
