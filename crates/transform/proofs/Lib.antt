pub mod Lines
pub mod Made
pub mod Blocks
pub mod Places
pub mod Stages
