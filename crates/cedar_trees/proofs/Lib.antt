pub mod Bares
pub mod Folding
pub mod Records
