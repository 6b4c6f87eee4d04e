pub mod UidSets
pub mod Ordered
mod Listed
pub mod Distinct
pub mod UidLemmas
mod Entries
mod SameMaps
mod Lookups
mod Closed
mod Adding
mod Removing
mod Sameness
mod ByUid
mod Passing
mod Edited
pub mod Untouched
mod Beside
pub mod Gathering
mod Known
pub mod Whole
mod Dropping
mod InPlace
pub mod Inserted
pub mod GainedEdges
pub mod Gained
