mod Again
pub mod Lookups
mod Telling
mod Typing
mod Regular
mod Giving
mod Chaining
mod Nodes
mod Written
