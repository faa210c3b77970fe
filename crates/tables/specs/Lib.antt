-- How the tables hold a relay: in one buffer. docs/LAYOUT.md draws it.
pub mod Forms
pub mod Places
pub mod Fields
pub mod Records
pub mod Layout
pub mod Called
pub mod Asked
pub mod Shape
pub mod Groups
