pub mod Checks
pub mod Steps
pub mod Reads
pub mod Finals
pub mod NormalizedPosteriors
