pub mod Operations
pub mod Own
