pub mod Crashing
pub mod Runs
pub mod Tears
