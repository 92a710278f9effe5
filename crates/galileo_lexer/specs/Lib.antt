pub mod Bytes
pub mod Spot
pub mod Lexed
pub mod Found
pub mod Pieces
pub mod Spelling
pub mod Lexer
