pub mod Table
pub mod Logs
pub mod Lines
pub mod Probs
