pub mod Taking
pub mod Starting
pub mod Going
pub mod Stepping
pub mod Further
pub mod Finishing
pub mod Refusing
-- Of the layers below, for those above.
pub use Rattle.parts.proofs.Firsts
