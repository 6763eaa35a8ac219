pub mod SweepCaseOf
pub mod Inner
