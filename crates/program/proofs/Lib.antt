pub mod Alone
pub mod Displays
pub mod Fields
pub mod InParts
pub mod Results
pub mod Servers
