-- To believe.
pub mod Forms
pub mod Events
pub mod Scopes
pub mod Fitting
pub mod Prefixes
pub mod View
-- Steps of the program.
pub mod Shapes
pub mod Uses
pub mod Leading
