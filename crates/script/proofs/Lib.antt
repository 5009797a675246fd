pub mod Idle
pub mod Written
