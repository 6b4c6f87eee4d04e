pub mod Domain
pub mod Table
