pub mod Moments
pub mod Parts
