-- What the code decides of a packet.
pub mod Decided
pub mod First
pub mod Kinds
