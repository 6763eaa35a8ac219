pub mod Counting
pub mod Ready
pub mod Room
