-- The second opinion's engine and the core, about the bytes of both.
pub mod Agreeing
