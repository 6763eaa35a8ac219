pub mod NoHaplotypes
pub mod Inner
