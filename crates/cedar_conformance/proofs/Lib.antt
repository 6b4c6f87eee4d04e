mod Accepting
pub mod Told
pub mod Walking
pub mod Worded
