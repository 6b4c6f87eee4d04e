pub mod Faults
pub mod Json
pub mod Places
pub mod Telling
