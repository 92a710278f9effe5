pub mod Recipe
pub mod Due
pub mod Generation
pub mod Least
pub mod Examples
