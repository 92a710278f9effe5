pub mod Places
pub mod Building
pub mod Workers
