pub mod Rates
pub mod PriorTable
pub mod Posteriors
