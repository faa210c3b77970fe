-- What the program writes of a digest.
pub mod Line
