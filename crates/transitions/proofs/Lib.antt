pub mod Keeping
pub mod Remembering
pub mod Asking
pub mod Unfolding
pub mod Listing
