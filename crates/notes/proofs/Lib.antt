-- What holds of the notes, whichever they are.
pub mod NoteLaws
