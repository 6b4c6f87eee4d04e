pub mod Errors
pub mod ErrorsLeft
pub mod LooseTexts
pub mod Faults
pub mod Literals
pub mod Sameness
pub mod Settings
pub mod Strict
pub use Rattle.cedar_tokens.specs.Kinds as TokenKinds
pub use Rattle.cedar_cst.specs.Nodes
pub use Rattle.cedar_cst.specs.LeafView
pub use Rattle.cedar_cst.specs.View
pub use Rattle.cedar_loose.specs.Texts as LooseReadings
pub use Rattle.cedar_faults.specs.Reasons
pub use Rattle.cedar_faults.specs.Telling
pub use Rattle.cedar_conversion.specs.Shown
pub use Rattle.cedar_faults.specs.Converts
pub use Rattle.cedar_faults.specs.Flat
pub use Rattle.cedar_conversion.specs.Building
pub use Rattle.cedar_conversion.specs.Choices
pub use Rattle.cedar_conversion.specs.Shows
