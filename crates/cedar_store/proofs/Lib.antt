pub mod Joins
pub mod Keeps
pub mod Numbering
pub mod Numbers
pub mod RenamingLaws
pub mod Wholes
pub mod Given
