-- What the writes of an accepted packet leave in the tables' bytes.
pub mod Written
