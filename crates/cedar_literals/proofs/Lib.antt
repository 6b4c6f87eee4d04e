pub mod Sameness
pub mod Escaping
pub mod ReadingBack
pub mod Cutting
mod Greedy
mod Turns
mod Told
