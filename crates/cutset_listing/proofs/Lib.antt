mod Behind
mod Measuring
mod Meets
mod Sizes
mod Walks
pub mod HeavyLists
pub mod NodesLemmas
