-- What the relay's calls promise: Promise is all that a crate above may cite.
pub mod Refusal
pub mod Promise
pub mod Signature
