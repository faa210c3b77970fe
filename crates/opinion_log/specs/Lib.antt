-- The second opinion's log, in bytes, and what is known from it.
pub mod Log
pub mod Steps
