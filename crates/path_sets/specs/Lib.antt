pub mod Paths
pub mod Dual
pub mod Due
pub mod Building
pub mod Ends
