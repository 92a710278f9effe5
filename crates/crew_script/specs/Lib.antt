-- the tree part and the crew part of a deck
pub mod Deck
-- the words of a line
pub mod Words
-- the names of a request to take units
pub mod Names
-- crews and requests
pub mod Dockets
-- what a line says
pub mod Lines
-- the crews and their requests, or the first fault
pub mod Crews
-- the first word of a line
pub mod Taking
-- the lines of a text
pub mod TextLines
-- the forms of lines
pub mod Says
-- the crews that lines say, and the first fault
pub mod CrewsOf
-- where a deck is divided
pub mod Divides
