pub mod GroupLemmas
pub mod SigmaLemmas
