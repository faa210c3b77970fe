pub mod PathWrites
pub mod Sweep
pub mod Steps
pub mod Enacted
