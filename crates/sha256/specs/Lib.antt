-- FIPS 180-4, SHA-256, over lists of bytes and of 32-bit words as numbers.
-- A caller of the crate cites Sha256 alone. The modules above it are the standard, section by section.
pub mod Words
pub mod Bytes
pub mod Constants
pub mod Padding
pub mod Compression
pub mod Sha256
-- Not part of what a reader must believe: Vectors are theorems, and Steps serves the contracts of private helpers.
pub mod Vectors
pub mod Steps
