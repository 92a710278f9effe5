pub mod Residual
pub mod Tight
pub mod Holding
pub mod Kept
pub mod Ledger
