pub mod Booleans
mod Graph
pub mod Answering
mod Pattern
mod Standing
pub mod Rows
pub mod Rising
mod Sets
mod Height
