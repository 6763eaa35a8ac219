pub mod Open
pub mod Laid
pub mod AtCase
pub mod Rounds
pub mod Samples
