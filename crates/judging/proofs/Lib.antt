pub mod Narrow
pub mod HeldBlobs
pub mod Left
