pub mod Columns
pub mod Pattern
pub mod Passes
pub mod Inner
