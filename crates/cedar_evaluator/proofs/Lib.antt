pub mod Asked
mod Answered
mod Evaluated
mod Apart
mod Entered
mod Adding
mod Keeping
mod Kept
mod KeptBy
mod Responding
pub mod Deciding
mod Reading
mod Concrete
pub mod Standings
mod Meant
mod ByRules
mod Residuals
mod Sought
mod HeldIds
mod Telling
mod LeftSets
pub mod Twice
mod CopiedParts
mod Again
mod Unmet
mod Scoped
mod Judged
mod ReadConditions
mod ScopeDepths
mod Deepening
mod OutOfScope
mod Thinned
mod Listed
mod Passed
pub mod Lists
pub mod Members
pub mod Counted
pub mod Grouped
pub mod Taken
pub mod KeptOf
pub mod LeftStands
pub mod Accepting
mod Paired
mod Erring
pub mod AskedSo
mod AskedAgain
mod Expressions
mod MadeStores
mod Answering
mod AnsweringKnown
mod AnsweringAgain
