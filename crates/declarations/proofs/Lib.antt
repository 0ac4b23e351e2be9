pub mod Turns
pub mod Constants
pub mod Fields
pub mod Entire
pub mod Meanings
pub mod Parted
pub mod Whole
