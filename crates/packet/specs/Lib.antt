-- The packet layout of document 01, over lists of bytes.
pub mod Places
pub mod Header
pub mod Read
pub mod Write
pub mod Hash
pub mod Announce
