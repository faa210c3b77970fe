-- How what crosses to C and Rust lies in numbers and bytes.
pub mod Bits
pub mod Packets
pub mod Answers
pub mod Tallies
pub mod Texts
pub mod Recordings
pub mod Saved
