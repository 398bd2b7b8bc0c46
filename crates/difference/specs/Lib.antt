pub mod Difference
pub mod Number
pub mod Ruled
pub mod Sides
