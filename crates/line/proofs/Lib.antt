pub mod Lines
pub mod Feeding
pub mod Replying
pub mod Samples
