pub mod Rows
pub mod Sorted
pub mod Members
pub mod Turns
pub mod Bounds
pub mod Ranges
