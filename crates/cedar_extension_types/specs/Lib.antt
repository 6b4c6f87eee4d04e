pub mod Types
pub mod Answers
pub mod Built
pub mod Standard
pub mod Tables
pub mod Written
pub mod Laws
