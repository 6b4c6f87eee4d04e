pub mod Keyed
pub mod ItemByItem
pub mod Naming
pub mod Wholes
pub mod Carrying
pub mod Built
pub mod Entries
pub mod Listed
pub mod Parts
pub mod Reading
pub mod Sets
pub mod Versions
pub mod Shown
mod EditedWorlds
mod Fitting
pub mod PolicyWorlds
mod TextEntries
mod LoadWorlds
mod Keeping
mod Refusing
mod Linked
mod Removed
mod Loaded
mod EditedStores
mod EditedBodies
mod BuiltEdits
