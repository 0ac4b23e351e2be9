pub mod Lines
pub mod Closed
pub mod Denoting
pub mod Tables
pub mod Copies
pub mod Masks
pub mod Learning
pub mod NamedSets
