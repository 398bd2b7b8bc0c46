pub mod Command
pub mod Counts
pub mod Words
pub mod Reply
pub mod Standing
