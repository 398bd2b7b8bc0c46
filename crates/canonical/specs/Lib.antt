pub mod Shown
pub mod Showing
