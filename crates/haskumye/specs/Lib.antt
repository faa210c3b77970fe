-- What the library says of itself, the buffers that hosts lend for packets, and an answer of the second opinion.
pub mod Opinions
pub mod Packets
pub mod Tables
