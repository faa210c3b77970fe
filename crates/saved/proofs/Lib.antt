-- Laws of loading and of saving; then the theorems over whole files, and a concrete one.
pub mod LoadLaws
pub mod CurrentLaws
pub mod SaveLaws
pub mod Made
pub mod RoundTrip
pub mod FormatLaws
pub mod Example
