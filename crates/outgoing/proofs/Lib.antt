pub mod LeavingLaws
pub mod Steps
pub mod RuleLaws
pub mod PortLaws
