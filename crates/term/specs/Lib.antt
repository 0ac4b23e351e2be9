-- To believe.
pub mod Events
pub mod Traces
pub mod Proc
pub mod Meaning
pub mod Steps
pub mod Verdict
pub mod Sizes
pub mod Limits
pub mod Alphabets
pub mod Specs
pub mod Examples
-- Steps of the program.
pub mod Same
pub mod SameLaws
pub mod Codes
