pub mod Limit
pub mod Passed
pub mod Rows
pub mod Run
pub mod Elements
