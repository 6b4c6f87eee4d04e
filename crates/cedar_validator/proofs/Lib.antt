pub mod Naming
pub mod Converted
pub mod Told
pub mod Filled
pub mod Viewed
pub mod Requested
pub mod Slots
pub mod Valid
