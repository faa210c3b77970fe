-- What the host has noted of a path, and how it lies in bytes.
pub mod Notes
