pub mod PhaseRead
pub mod LinesRead
