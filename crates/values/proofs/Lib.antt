pub mod Numbers
pub mod ValueSets
pub mod Keeps
pub mod Branches
pub mod Parts
pub mod Lists
pub mod Named
pub mod Inputs
