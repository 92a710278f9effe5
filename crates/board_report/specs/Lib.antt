-- the log of a board
pub mod LogText
-- entries that a log can show
pub mod Logged
-- the text of a board
pub mod BoardText
-- what a board shows at its end
pub mod Ends
-- the text of `check`
pub mod CheckText
-- the text of `print`
pub mod PrintText
-- the summary of a made deck
pub mod SummaryText
-- the lines of refusals
pub mod Refusals
