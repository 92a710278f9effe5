-- what the statements say
pub mod Said
-- the same by the numbers of the tree
pub mod Numbered
-- the classes of faults, each with its places
pub mod Classes
-- a table by which a shared spare shows
pub mod SpareTable
-- the tree that the statements stand for
pub mod TreeOf
-- whether they stand for one, or which fault is the first
pub mod Checked
-- a fault that one class answers
pub mod Found
-- what naming gives
pub mod Naming
pub mod Numbering
pub mod Triggers
pub mod Marked
-- classes one after another
pub mod Tried
-- a text by numbers in which no class of faults occurs
pub mod Examined
-- how the parts of a tree are taken out of statements
pub mod Assembling
