pub mod NumeralLaws
pub mod TextLaws
pub mod WordLaws
