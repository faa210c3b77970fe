-- What is seen for one packet, and what it stands for.
pub mod Seen
pub mod Steps
