-- What a question to the tables is told, by the bytes of the record that it is about.
pub mod Told
pub mod Asked
