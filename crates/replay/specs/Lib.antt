-- What the program says of tables that it can't load, and of a recording over those that it can.
pub mod Line
pub mod Replayed
