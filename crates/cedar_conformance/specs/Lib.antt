pub mod Laws
pub mod Requests
pub mod Verdicts
pub mod Walks
