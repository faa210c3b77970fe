pub mod Answered
pub mod Zeros
pub mod Shaped
