pub mod Operands
pub mod Halves
pub mod Rests
