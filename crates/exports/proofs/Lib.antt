pub mod Numbers
pub mod Promised
