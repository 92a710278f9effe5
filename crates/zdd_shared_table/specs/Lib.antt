pub mod Known
pub mod Views
pub mod Rule
pub mod Seats
pub mod Making
pub mod Search
