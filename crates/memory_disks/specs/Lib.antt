-- To believe.
pub mod Shown
pub mod Replay
pub mod Remains
pub mod Kept
