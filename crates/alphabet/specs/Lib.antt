-- To believe.
pub mod AlphabetErrors
pub mod Events
pub mod EventSets
pub mod Names
pub mod Channels
pub mod EventParts
pub mod Stored
pub mod Tables
-- Steps of the program.
pub mod Elements
pub mod Naming
