-- To believe.
pub mod Sessions
pub mod Steps
-- Of the layers below, for those above.
pub use Rattle.parts.specs.Faults
pub use Rattle.parts.specs.Opening
pub use Rattle.parts.specs.Parts
pub use Rattle.parts.specs.Recorder
pub use Rattle.parts.specs.declared.error.PartsError
