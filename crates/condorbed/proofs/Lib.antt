-- The laws behind the program's proofs.
pub mod Names
