-- The laws that the calls cite, and that the engine agrees with the rules.
pub mod Written
pub mod Put
pub mod Settled
pub mod Agreement
pub mod Inhabited
