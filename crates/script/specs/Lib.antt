-- To believe.
pub mod Reading
-- Steps of the program.
pub mod Tables
pub mod Fields
pub mod Coding
pub mod Standing
pub mod View
