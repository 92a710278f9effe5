pub mod Lists
pub mod Joins
pub mod Chains
pub mod Rests
