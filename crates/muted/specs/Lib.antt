pub mod Unmuted
pub mod SameAnswers
pub mod MutedRead
