-- The second opinion and the rules answer alike; two announces may come in either order.
pub mod Looking
pub mod Taken
pub mod Coarse
pub mod Holding
pub mod Agrees
pub mod Packets
pub mod Calls
pub mod SecondOpinion
pub mod EitherOrder
pub mod InstanceOpinion
pub mod InstanceOrder
