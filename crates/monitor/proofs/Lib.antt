pub mod Judgments
pub mod Limits
-- Of the layers below, for those above.
pub use Rattle.spaces.proofs.Growing
