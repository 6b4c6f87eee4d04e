pub mod Unknowns
pub mod Bare
pub mod Shapes
pub mod Records
pub mod RecordLaws
