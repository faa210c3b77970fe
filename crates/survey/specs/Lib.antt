-- What the program does with the recordings that its arguments name.
pub mod Reading
