-- To believe.
pub mod ErrorKind
pub mod Positions
pub mod Unreads
pub mod Spelling
pub mod Lexeme
pub mod Text
-- Steps of the program.
pub mod Scanning
pub mod Found
