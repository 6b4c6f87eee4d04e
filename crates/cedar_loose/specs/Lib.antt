pub mod Gives
pub mod Steps
pub mod Links
pub mod Errors
pub mod Parts
pub mod Texts
pub mod SoFar
pub mod Readers
