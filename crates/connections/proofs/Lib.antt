pub mod Turns
pub mod Telling
pub mod Joining
pub mod SoFar
