pub mod Packed
pub mod Reader
pub mod Collected
pub mod Rows
pub mod Piles
