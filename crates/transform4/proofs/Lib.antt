pub mod FourPass
pub mod FourForward
pub mod Classes
