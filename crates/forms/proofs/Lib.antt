pub mod KindLaws
pub mod FormLaws
pub mod ContextLaws
pub mod WayLaws
