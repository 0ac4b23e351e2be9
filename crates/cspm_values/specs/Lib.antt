-- To believe.
pub mod Answers
pub mod Values
pub mod Limits
pub mod Parts
pub mod Made
pub mod Numbers
pub mod Sets
pub mod Sequences
pub mod Functions
pub mod View
pub mod Laws
-- Steps of the program.
pub mod Order
