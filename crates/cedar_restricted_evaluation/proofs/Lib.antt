pub mod Naming
pub mod WrittenNames
mod Gathering
mod Arms
mod Known
mod Keying
pub mod Built
pub mod Made
