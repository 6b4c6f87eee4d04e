pub mod Bodies
pub mod Holdings
pub mod Theorem
pub mod Laws
pub mod Rows
