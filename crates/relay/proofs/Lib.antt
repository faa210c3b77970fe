pub mod RefusalLaws
pub mod PromiseLaws
pub mod SignatureLaws
pub mod LengthLaws
