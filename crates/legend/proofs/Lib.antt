pub mod Trimming
pub mod Listing
pub mod Sizes
pub mod Answering
pub mod Promises
pub mod Samples
