pub mod Filter
pub mod Filtered
pub mod Inner
