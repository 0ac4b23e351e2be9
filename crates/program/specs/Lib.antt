-- To believe.
pub mod Exits
pub mod Conversations
pub mod Prints
pub mod Showings
pub mod Followings
pub mod Parts
pub mod Servers
-- Of the layers below, for those above.
pub use Rattle.attending.specs.Courses
pub use Rattle.attending.specs.Standing
pub use Rattle.attending.specs.Attendances
pub use Rattle.attending.specs.declared.manner.Manner
pub use Rattle.attending.specs.declared.manner.Ending
pub use Rattle.large_sessions.specs.Opening
pub use Rattle.shared.specs.Entry
pub use Rattle.shared.specs.SessionError
pub use Rattle.shown.specs.declared.options.Options
