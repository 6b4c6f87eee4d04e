pub mod Runs
pub mod Classes
pub mod Takes
pub mod Quoted
pub mod Data
pub mod Simple
pub mod Questions
pub mod Parts
