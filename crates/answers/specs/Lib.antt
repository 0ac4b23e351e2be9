-- To believe.
pub mod Faults
pub mod Exits
