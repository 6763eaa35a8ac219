pub mod State
pub mod Reads
pub mod Tokens
pub mod Print
pub mod Input
pub mod Word
