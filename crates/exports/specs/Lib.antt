pub mod Answers
pub mod Inputs
pub mod Promises
