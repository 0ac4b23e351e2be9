-- To believe.
pub mod Commands
pub mod Crossings
pub mod Endings
-- Steps of the program.
pub mod Statuses
