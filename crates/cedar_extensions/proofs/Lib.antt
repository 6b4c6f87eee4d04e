pub mod Apart
pub mod CountedCalls
pub mod Defined
pub mod Finding
pub mod Gathered
mod Fitting
