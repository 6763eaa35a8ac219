pub mod Sweeps
pub mod Demand3
pub mod Inner
