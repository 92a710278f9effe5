pub mod Listing
pub mod BySize
pub mod Visits
pub mod Nodes
pub mod FamilySizes
