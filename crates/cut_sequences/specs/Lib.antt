pub mod Permutations
pub mod Orders
pub mod Going
pub mod Dealing
pub mod Holding
pub mod Working
