pub mod Checkers
pub mod Checks
pub mod Naming
pub mod Reasons
pub mod RefusedBodies
pub mod Titles
