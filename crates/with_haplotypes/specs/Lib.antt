pub mod Round
pub mod Promise
pub mod Finals
pub mod Inner
