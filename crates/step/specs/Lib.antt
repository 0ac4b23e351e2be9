-- To believe.
pub mod Labels
pub mod Faults
