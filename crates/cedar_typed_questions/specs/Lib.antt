pub mod Filled
pub mod Early
