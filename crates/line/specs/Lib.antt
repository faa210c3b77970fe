-- Document 01, "The showing program": the line that a packet is shown by.
pub mod Words
pub mod Line
pub mod Example
