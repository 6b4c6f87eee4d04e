pub mod Qualifying
pub mod Sameness
pub mod Splitting
pub mod Finding
pub mod TextBytes
