pub mod Swapping
pub mod Given
pub mod LinkObjects
pub mod Renaming
pub mod Placed
pub mod Replies
pub mod Loads
pub mod OneNamed
