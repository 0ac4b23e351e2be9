-- To believe.
pub mod Labels
pub mod Offers
pub mod Resting
pub mod Cuts
pub mod Among
-- Steps of the program.
pub mod Targets
pub mod HiddenSets
