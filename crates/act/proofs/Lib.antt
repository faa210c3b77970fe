pub mod Announced
pub mod Inverted
pub mod Forwards
pub mod Spreads
pub mod Stays
pub mod StampLaws
