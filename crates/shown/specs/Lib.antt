-- To believe.
pub mod Names
pub mod Lines
pub mod Findings
pub mod Coverage
pub mod Shows
pub mod Showings
pub mod Nearness
pub mod Reasons
-- Steps of the program.
pub mod Remarks
pub mod Said
pub mod Tallies
pub mod Slots
pub mod Steps
pub mod Parting
