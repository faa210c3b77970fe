-- What the questions and their helpers promise. What the questions are told is in tables/specs/Asked.antt.
pub mod Put
