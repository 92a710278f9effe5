-- that a table by number tells each clash
-- that no number is above the number of names
-- the first of the places of a list, one item after another
-- what a statement of another kind doesn't have
pub mod Differ
pub mod FirstPlaces
pub mod Numbers
pub mod SameEdges
pub mod SoFar
-- what a class that doesn't occur says of each item
pub mod NonePass
pub mod SpareParts
pub mod GoodGates
pub mod StatementNames
pub mod SpareLemmas
pub mod StatementParts
pub mod TriggerRows
pub mod Members
pub mod Cyclic
pub mod Surveyed
pub mod Edges
pub mod SaidLemmas
pub mod Unmarked
pub mod LowNumbers
-- what a text by numbers keeps for the parts of its tree
pub mod DeckParts
-- classes that are tried one after another
pub mod Trying
-- a fault of a class, where the classes before it don't occur, is the first
pub mod Refusals
pub mod Faultless
-- statements stand for a tree, or one class occurs first
pub mod SomeTree
pub mod OneFault
-- there is one tree at most, and one first fault
pub mod OneTree
pub mod Taking
