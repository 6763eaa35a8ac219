pub mod Table
pub mod Knots
pub mod Addend
pub mod Logs
pub mod OneMinus
pub mod Phred
pub mod Inner
