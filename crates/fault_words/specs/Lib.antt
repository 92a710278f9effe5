pub mod Name
pub mod NameBytes
pub mod Names
