pub mod Identifiers
pub mod Names
pub mod Reading
pub mod Converting
pub mod Laws
pub mod Raw
