mod Relating
-- written statements are read as these statements
mod GateWords
mod Pieces
mod Lexemes
mod Spelling
mod WrittenRead
-- it doesn't matter where statements stand
mod Passing
mod Anywhere
mod PlaceFree
mod Standing
mod Dividing
-- the statements of a tree stand for it
mod TreeLists
mod TreeSpares
mod TreeClasses
mod TreeStands
-- the names of a tree that a deck stands for
mod DeckNames
-- the reading of a deck
mod Ends
mod Parts
-- a deck has a tree and crews, or one first fault
pub mod OneDeck
mod SomeDeck
