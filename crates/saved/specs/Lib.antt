-- Saved tables, as document 02's Wish 4 has them: the file, saving and loading. The editions are crates/editions.
pub mod File
pub mod Save
pub mod Load
pub mod Format
pub mod Steps
