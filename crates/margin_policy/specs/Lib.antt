pub mod Asked
pub mod AskedInside
pub mod Held
pub mod Decide
pub mod Standing
pub mod Holders
pub mod Guard
