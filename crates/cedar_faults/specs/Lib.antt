pub mod Reasons
pub mod Telling
pub mod Flat
pub mod Converts
pub mod Refusing
