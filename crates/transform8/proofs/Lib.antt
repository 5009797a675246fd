pub mod EightLines
pub mod EightPass
pub mod EightForward
pub mod Classes
pub mod Rescaling
