pub mod Lengths
pub mod WriteLaws
pub mod Fields
pub mod RoundTrip
pub mod Example
