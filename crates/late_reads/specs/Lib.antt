pub mod Values
pub mod Arriving
pub mod LateReads
pub mod Inner
