pub mod Faults
pub mod Reading
pub mod Writing
pub mod HeldSource
pub mod KeptSink
pub mod Out
