-- To believe.
pub mod Files
pub mod Kept
