pub mod Counts
pub mod Stating
pub mod Apart
pub mod Flat
pub mod Calling
pub mod Reading
pub mod Writing
