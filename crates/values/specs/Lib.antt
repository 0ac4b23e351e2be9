-- To believe.
pub mod Values
pub mod Worths
pub mod Names
pub mod Channels
pub mod View
pub mod Tables
-- Steps of the program.
pub mod Order
pub mod Lazy
