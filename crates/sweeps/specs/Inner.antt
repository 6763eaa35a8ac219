pub mod Sweeps
pub mod Incremental
pub mod Posts
