pub mod ActionNames
pub mod Actions
pub mod Applying
pub mod EntityTypes
pub mod Hierarchies
pub mod Searches
pub mod Views
