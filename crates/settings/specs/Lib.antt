-- The calls that need no packet, on the tables' bytes.
pub mod Calls
