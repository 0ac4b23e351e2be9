-- To believe.
pub mod Held
pub mod HeldInParts
pub mod Openings
pub mod Plans
pub mod Runs
pub mod Served
pub mod Services
pub mod Statuses
-- Of the layers below, for those above.
pub use Rattle.shared.specs.Beginnings
pub use Rattle.shared.specs.Entries
pub use Rattle.shared.specs.Entry
pub use Rattle.shared.specs.Lasting
pub use Rattle.shared.specs.Legal
pub use Rattle.shared.specs.SessionView
pub use Rattle.shared.specs.Summary
