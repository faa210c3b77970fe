-- Recordings, as document 02's Wish 1 has them: the file, its reader and its writer.
pub mod Shape
pub mod Format
pub mod Reader
pub mod Writer
pub mod Steps
