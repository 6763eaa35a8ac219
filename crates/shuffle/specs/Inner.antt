pub mod Orders
pub mod Answers
