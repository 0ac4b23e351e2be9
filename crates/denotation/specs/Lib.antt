-- To believe.
pub mod Bodies
pub mod Phrases
pub mod Denotes
-- Steps of the program.
pub mod Rooms
pub mod Branches
pub mod Walks
pub mod Places
pub mod Ahead
pub mod Shapes
pub mod View
pub mod CallLaws
