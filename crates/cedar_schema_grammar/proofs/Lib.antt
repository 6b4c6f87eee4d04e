mod Eats
mod Complete
mod Sound
mod DeclarationsSound
mod Texts
pub mod Reaching
mod SchemaRows
mod ResolvedRows
pub mod Pigeons
pub mod Unfolding
mod Whole
mod Conforming
mod Environments
mod VerdictRows
