pub mod Passing
pub mod Known
pub mod MadeAgain
pub mod Sound
mod Typed
mod Prompt
pub mod Carried
mod Seam
pub mod Question
mod Filling
mod Telling
mod Early
mod EarlyRows
mod Linking
mod UnboundSeam
mod Reauthorizing
pub mod Leaves
mod Errors
mod ReadUnknowns
pub mod Alike
mod DataErrors
mod Waiting
pub mod Scopes
