pub mod View
pub mod Reads
pub mod Places
pub mod Gives
pub mod Parts
pub mod Nesting
pub mod Errors
