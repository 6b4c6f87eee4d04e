pub mod Listing
pub mod MarkOrder
pub mod Steps
pub mod Pairing
pub mod Walking
pub mod HeldSlots
pub mod Projecting
