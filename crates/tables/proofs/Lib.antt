-- Reading, writing and testing the tables: the laws of the layout (crate codes), in the words of the rules.
pub mod All
pub mod Tests
pub mod Lent
pub mod Seen
pub mod Chunks
pub mod Plain
pub mod Section
pub mod Patches
pub mod Shaped
pub mod Whole
pub mod Addressed
pub mod Called
