pub mod Reads
pub mod Piles
pub mod Scores
pub mod Visits
pub mod Runs
