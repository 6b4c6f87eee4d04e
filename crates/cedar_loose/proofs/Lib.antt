mod Spelled
pub mod Loops
pub mod Cases
pub mod Signs
pub mod NameLoop
pub mod Limits
pub mod Fewer
pub mod Readings
pub mod Telling
mod Given
