-- the words of the program
pub mod Words
-- which picture a run is about
pub mod Pictures
-- why there is no picture, and what is said of it
pub mod Refusals
-- the picture that is found, or why none is
pub mod Finding
-- how large a store a run gets
pub mod StoreSize
-- how a run ends
pub mod Ends
-- what a run did
pub mod Runs
