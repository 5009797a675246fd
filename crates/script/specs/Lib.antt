pub mod Answers
pub mod CameraState
pub mod Kinds
pub mod Memory
pub mod Sides
pub mod Texts
pub mod State
