-- To believe.
pub mod Spaces
pub mod Acceptances
pub mod Crossings
-- Steps of the program.
pub mod Answers
pub mod Found
pub mod Offers
pub mod Known
-- Of the layers below, for those above.
pub use Rattle.tau_closures.specs.declared.fault.AfterFault
pub use Rattle.tau_closures.specs.Belonging
pub use Rattle.tau_closures.specs.Limits
