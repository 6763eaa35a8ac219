pub mod Rates
pub mod Letters
pub mod Priors
pub mod Answers
pub mod Posteriors
pub mod Normalized
pub mod Inner
