-- What callers may cite: Promise. The other files are laws of plain lists and numbers that the proofs of the functions cite.
pub mod Promise
pub mod BitLaws
pub mod ZeroLaws
pub mod ScheduleLaws
pub mod RoundLaws
pub mod PaddingLaws
pub mod BlockLaws
pub mod WordBytes
