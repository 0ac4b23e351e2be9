-- To believe.
pub mod Operators
pub mod Rules
pub mod Grammar
pub mod Script
pub mod View
pub mod Answers
-- Steps of the program.
pub mod Faults
pub mod Parsing
