-- Announces of our own: document 02, Wish 12.
pub mod Announcing
pub mod Steps
