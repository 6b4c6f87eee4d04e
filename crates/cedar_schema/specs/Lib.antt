pub mod Orders
pub mod Tables
pub mod Types
pub mod Walks
