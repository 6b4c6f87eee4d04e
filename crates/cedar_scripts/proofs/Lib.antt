pub mod Adding
pub mod Lending
pub mod LinesRead
pub mod Runs
pub mod Single
pub mod SingleFault
pub mod SingleScript
pub mod Turns
