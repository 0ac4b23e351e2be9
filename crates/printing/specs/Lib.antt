-- To believe.
pub mod Names
pub mod Printed
-- Steps of the program.
pub mod View
pub mod Inside
