-- The second opinion's calls on a log.
pub mod Calls
pub mod Steps
pub mod Agreeing
