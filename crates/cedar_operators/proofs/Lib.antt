pub mod Passing
pub mod ByStore
pub mod ByHierarchy
pub mod ByLookup
pub mod FactsOf
pub mod ByTag
