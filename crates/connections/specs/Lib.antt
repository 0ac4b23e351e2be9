-- To believe.
pub mod Outcomes
pub mod Endings
pub mod Services
-- Steps of the program.
pub mod Starting
pub mod Visiting
