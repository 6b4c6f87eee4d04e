pub mod Chains
pub mod Laws
pub mod Rising
pub mod Told
pub mod Typed
