pub mod Held
pub mod Likelihoods
pub mod Pairs
pub mod Totals
