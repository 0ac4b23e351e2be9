pub mod AloneLemmas
pub mod AttendLemmas
pub mod ListenLemmas
pub mod ReasonLemmas
pub mod SigmaLemmas
