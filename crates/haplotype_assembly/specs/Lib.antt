pub mod Phase
pub mod GivenPhase
pub mod Lines
pub mod FlistBuffer
pub mod Inner
