pub mod Messages
pub mod Frame
pub mod Batch
pub mod Walk
pub mod Sized
