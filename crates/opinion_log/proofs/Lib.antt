pub mod Entries
pub mod Reading
pub mod Walk
pub mod Changes
pub mod Ported
pub mod Views
pub mod Steps
pub mod Judged
