pub mod Closings
pub mod Crossings
pub mod Openings
pub mod OpeningsInParts
pub mod Plans
pub mod ServiceClosings
pub mod Standing
