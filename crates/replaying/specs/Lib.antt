-- Document 02, Wish 1: the replay of a recording. Lines says how an answer is printed, Promise what a step and a replay are: all that a crate above may cite.
pub mod Words
pub mod Lines
pub mod Promise
pub mod Example
