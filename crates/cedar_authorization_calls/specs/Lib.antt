pub mod Naming
pub mod Responding
