pub mod Views
pub mod Repeats
pub mod Actions
pub mod Names
pub mod Telling
pub mod Cycles
