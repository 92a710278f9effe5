pub mod ReadTree
pub mod Lexeme
pub mod GateWord
pub mod Parsed
pub mod Reads
pub mod Grammar
