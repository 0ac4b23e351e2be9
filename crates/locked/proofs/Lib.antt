pub mod Faults
pub mod Giving
pub mod Lasting
pub mod Stretches
pub mod Waits
pub mod Crossings
-- Of the layers below, for those above.
pub use Rattle.session.proofs.Beginnings
pub use Rattle.session.proofs.Histories
pub use Rattle.session.proofs.Keeping
pub use Rattle.session.proofs.Rests
pub use Rattle.session.proofs.ScriptLemmas
