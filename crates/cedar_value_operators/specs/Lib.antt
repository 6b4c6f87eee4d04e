pub mod Operands
pub mod Comparing
pub mod Sets
