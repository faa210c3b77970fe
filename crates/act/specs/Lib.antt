-- What acting on a decision leaves.
pub mod Stored
pub mod Acted
