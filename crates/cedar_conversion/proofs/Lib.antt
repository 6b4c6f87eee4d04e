pub mod Words
pub mod Steps
pub mod Converting
pub mod Made
pub mod Ordering
pub mod Refusing
mod Seen
mod Trees
mod Nodes
mod Sole
mod Told
mod Behind
mod Twice
mod Chains
mod Rising
mod Holding
mod Fine
mod Constructs
mod Meant
pub mod Written
