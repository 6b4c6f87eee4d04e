pub mod Store
pub mod StoreLaws
pub mod Hierarchy
pub mod Lookups
