pub mod Evaluations
pub mod Findings
pub mod Built
