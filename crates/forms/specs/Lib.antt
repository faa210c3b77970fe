-- What a packet's bytes alone say.
pub mod Form
