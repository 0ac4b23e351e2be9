-- Steps of the program.
pub mod Fitting
pub mod Passing
pub mod Sigma
