pub mod Counting
pub mod Replying
pub mod Samples
