-- what crews ask, by the units of a tree
pub mod Requests
-- histories of entries
pub mod Histories
-- what contracts see of a board, and its next entry
pub mod Boards
-- what a board keeps
pub mod Kept
-- what the margin rule promises along a history
pub mod Safety
-- what a pass knows of a board
pub mod Views
-- the rule of a board
pub mod Rule
-- what the steps tell
pub mod Turns
-- a shared board and its passes
pub mod Passes
-- passes are dealt and gathered
pub mod Dealing
