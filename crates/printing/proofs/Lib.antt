pub mod Examples
pub mod Lists
pub mod Members
pub mod NameLists
pub mod Parts
pub mod Enclosed
