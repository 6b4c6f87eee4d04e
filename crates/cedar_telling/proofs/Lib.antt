pub mod Types
mod FoundFields
pub mod Data
pub mod Filled
pub mod Asked
pub mod Asking
pub mod Named
pub mod Stated
pub mod WrittenNames
pub mod Gathered
pub mod JoinedIds
pub mod TellParts
pub mod TellBodies
