pub mod Blocks
pub mod Widths
pub mod Quantiser
pub mod Transform
pub mod Four
pub mod Eight
pub mod Transformed
