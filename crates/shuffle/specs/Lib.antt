pub mod SplitMix
pub mod Permutation
pub mod Orders
pub mod Answers
pub mod Inner
