-- To believe.
pub mod State
pub mod Calls
pub mod Runs
