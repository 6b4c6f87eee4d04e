pub mod Ahead
mod Bodies
mod Callers
mod Readings
mod Unknowns
pub mod Simple
pub mod Given
pub mod Asking
pub mod Telling
pub mod Untyped
pub mod LaterProp
pub mod Depths
pub mod Kept
pub mod Runs
pub mod Statuses
pub mod Texts
pub mod Edits
pub mod PolicyCommands
pub mod ReadBack
