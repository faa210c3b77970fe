pub mod Searches
pub mod Tables
pub mod HeldBlobs
pub mod ExpiredPaths
pub mod Found
