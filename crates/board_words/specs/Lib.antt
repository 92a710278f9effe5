-- numbers as words
pub mod Number
-- options with their values
pub mod Options
-- the command that words say
pub mod Command
-- how the commands are spelled
pub mod Spellings
