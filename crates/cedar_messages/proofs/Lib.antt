pub mod Below
mod Causes
pub mod FaultsTold
pub mod Told
mod Visible
