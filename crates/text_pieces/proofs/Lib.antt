-- a text that is put piece by piece
pub mod Putting
-- lines of so many numbers
pub mod Counting
