pub mod Gathering
pub mod Joining
mod Alike
mod Making
mod Ordering
mod OwnNotes
mod Words
mod NoteKeys
mod InClauses
mod Emptiness
pub mod Acting
pub mod Asking
pub mod Finding
pub mod Owning
pub mod Parens
pub mod Parts
mod Parting
pub mod Showing
mod Wholes
mod Numbering
