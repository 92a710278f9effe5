pub mod Sets
pub mod Cuts
pub mod Generation
pub mod Counts
pub mod Overlap
pub mod Plan
pub mod Waiting
