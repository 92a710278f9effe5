pub mod Replayed
pub mod Growth
pub mod Table
pub mod Failing
pub mod Readers
pub mod Spread
pub mod Admission
pub mod Held
