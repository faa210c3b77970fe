-- The calls on the bytes that a caller lends: what each is given, promises and refuses.
pub mod Given
pub mod Bytes
pub mod Refusals
pub mod Keepalives
pub mod Chatty
pub mod DeadPaths
pub mod OldAnnounces
pub mod Replays
pub mod Lengths
