-- To believe.
pub mod Numbered
-- Steps of the program.
pub mod Lists
pub mod Memory
pub mod Unfolding
