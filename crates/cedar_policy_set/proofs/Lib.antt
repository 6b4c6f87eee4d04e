pub mod Additions
mod Closing
pub mod Counting
pub mod Covering
pub mod Distinct
pub mod Edits
pub mod Few
pub mod Finding
pub mod Gathering
mod Growing
mod ListedPlaces
mod Moving
pub mod Placed
pub mod Placing
pub mod Sameness
pub mod Telling
pub mod Uncovering
pub mod Views
pub mod Wholes
pub mod Copies
