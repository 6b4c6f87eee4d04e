pub mod LiteralSets
pub mod Lookups
pub mod Records
pub mod Sameness
pub mod Sets
pub mod Uids
