pub mod Reference
pub mod Word
