pub mod ScriptFaults
pub mod ScriptLaws
pub mod ScriptLines
pub mod ScriptTexts
pub mod Spoken
