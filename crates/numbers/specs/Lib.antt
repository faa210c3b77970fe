-- Document 01's numbers. The code has the same, in src/.
pub mod Numbers
pub mod Refusals
-- what a refused call leaves
pub mod Values
