pub mod Erring
pub mod Gathering
pub mod Kinds
pub mod Lines
pub mod Refusals
pub mod Replies
