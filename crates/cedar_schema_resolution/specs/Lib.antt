pub mod BuiltIn
pub mod Declarations
pub mod Mentions
pub mod Numbers
pub mod Parents
pub mod Puts
pub mod Resolved
pub mod Shapes
