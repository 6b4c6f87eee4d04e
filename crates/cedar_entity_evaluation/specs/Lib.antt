pub mod Evaluated
pub mod Refused
pub mod Calls
pub mod Validated
