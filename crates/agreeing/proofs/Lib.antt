-- Engine and core answer alike.
pub mod Agreement
pub mod Replied
pub mod InstanceAgreement
