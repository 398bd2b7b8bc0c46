pub mod Line
pub mod Fed
pub mod Room
pub mod Reply
