pub mod Zeroed
pub mod OneUnmuted
pub mod AllUnmuted
pub mod MutedRead
pub mod SameCalls
pub mod SameAnswers
