-- Steps of the program.
pub mod Crossings
