pub mod People
pub mod Legend
pub mod Standing
