pub mod Below
pub mod Density
pub mod Windows
pub mod Filters
