pub mod Arity
pub mod Holding
pub mod Unbound
pub mod Standing
