pub mod Listing
pub mod Putting
pub mod Knowing
pub mod Looking
pub mod Joining
pub mod Acting
pub mod HiddenSteps
pub mod Copying
