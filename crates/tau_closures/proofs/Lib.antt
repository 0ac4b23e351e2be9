pub mod Lists
pub mod Expanding
pub mod Putting
pub mod Levels
pub mod Rounds
pub mod Renaming
pub mod Keeping
pub mod Belongings
pub mod Advances
pub mod NumberPutting
pub mod NumberLevels
pub mod KeptLevels
pub mod KeptExpanding
pub mod KeptPutting
pub mod Broadening
pub mod KeptFirst
pub mod KeptBelongings
pub mod ByNames
-- Of the layers below, for those above.
pub use Rattle.keeping.proofs.Growing as Staying
pub use Rattle.nodes.proofs.Acting
pub use Rattle.nodes.proofs.Listing
pub use Rattle.nodes.proofs.Looking
pub use Rattle.nodes.proofs.Putting as NodesPutting
pub use Rattle.targets.proofs.Members
pub use Rattle.targets.proofs.Ticking
pub use Rattle.targets.proofs.Offered
pub use Rattle.targets.proofs.Rest
pub use Rattle.targets.proofs.Cutting
pub use Rattle.transitions.proofs.Asking
