-- To believe.
pub mod Monitors
pub mod TraceAfter
pub mod Crossings
-- Of the layers below, for those above.
pub use Rattle.spaces.specs.Acceptances
pub use Rattle.spaces.specs.AfterFault
pub use Rattle.spaces.specs.Belonging
pub use Rattle.spaces.specs.Limits
pub use Rattle.spaces.specs.Spaces
