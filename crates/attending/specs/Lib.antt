-- To believe.
pub mod Courses
pub mod Standing
pub mod Lines
pub mod Attendances
-- Steps of the program.
pub mod Preparing
