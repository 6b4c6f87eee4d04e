pub mod Names
pub mod Converting
pub mod SchemaTypes
pub mod Environments
pub mod Validating
