-- live histories
pub mod Histories
-- what contracts see of a board, and what is asked of it
pub mod Boards
-- what a state keeps
pub mod Kept
-- what a pass knows of a board
pub mod Views
-- the rule of a board
pub mod Rule
-- what the steps tell
pub mod Turns
-- passes as contracts see them
pub mod Passes
