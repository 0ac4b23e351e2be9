-- To believe.
pub mod Entries
pub mod Legal
pub mod Chronicle
pub mod Beginnings
pub mod Crossings
-- Steps of the program.
pub mod Counts
-- Of the layers below, for those above.
pub use Rattle.monitor.specs.Acceptances
pub use Rattle.monitor.specs.AfterFault
pub use Rattle.monitor.specs.Belonging
pub use Rattle.monitor.specs.Limits
pub use Rattle.monitor.specs.Monitors
