-- what the bytes of a deck stand for
pub mod Deck
-- its faults, and what a command reads of it
pub mod Faults
-- why there is no deck
pub mod Ends
-- the same by relations between whole lists
pub mod Relations
-- statements as they are written, one a line
pub mod Written
-- what statements say, wherever they stand
pub mod Unplaced
-- the statements of a tree
pub mod TreeStatements
