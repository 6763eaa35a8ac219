pub mod Piles
pub mod Tally
pub mod Calling
