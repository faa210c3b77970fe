-- What a search reads of the tables' bytes: the same for each table, whatever its width and place.
pub mod Search
pub mod Expired
