-- The laws of codes: each once for each way to put codes together. Forms has them for every form.
pub mod Same
pub mod Law
pub mod Single
pub mod Joint
pub mod Many
pub mod First
pub mod Slots
pub mod Forms
pub mod Places
pub mod Inside
pub mod Pieces
