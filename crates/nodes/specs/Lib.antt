-- To believe.
pub mod Shapes
pub mod Known
pub mod Tables
pub mod Looks
-- Steps of the program.
pub mod SameNodes
pub mod Copies
