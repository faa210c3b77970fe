pub mod ListLaws
pub mod ReadLaws
pub mod WriteLaws
pub mod HashLaws
pub mod RoundTrip
pub mod HashIndependence
pub mod EmissionExample
pub mod Widths
