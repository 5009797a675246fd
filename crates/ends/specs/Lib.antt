pub mod Planes
pub mod Tasks
pub mod Tiles
pub mod Refusals
pub mod Words
pub mod Calls
pub mod Runs
pub mod Inner
