pub mod Asking
pub mod Evaluations
pub mod Responses
pub mod Evaluating
pub mod Holding
pub mod Authorizing
pub mod Given
pub mod Grouping
pub mod Deciding
pub mod Concrete
pub mod Known
pub mod Residuals
pub mod Refusals
pub mod Concretizing
pub mod Reasons
pub mod Reauthorizing
pub mod Copies
pub mod Scopes
pub mod Candidates
pub mod IdsLeft
pub mod Questions
pub mod Expressions
pub mod MadeStores
pub use Rattle.cedar_value_operators.specs.Operands
pub use Rattle.cedar_value_operators.specs.Comparing
pub use Rattle.cedar_value_operators.specs.Sets
pub use Rattle.cedar_operators.specs.Store
pub use Rattle.cedar_operators.specs.StoreLaws
pub use Rattle.cedar_operators.specs.Hierarchy
pub use Rattle.cedar_requests.specs.Asking as RequestAsking
pub use Rattle.cedar_requests.specs.Contexts
pub use Rattle.cedar_requests.specs.Creating
pub use Rattle.cedar_requests.specs.Entries
pub use Rattle.cedar_requests.specs.Holding as RequestHolding
pub use Rattle.cedar_requests.specs.Parts
pub use Rattle.cedar_requests.specs.Refusals as RequestRefusals
pub use Rattle.cedar_requests.specs.Residuals as ContextResiduals
pub use Rattle.cedar_requests.specs.Sameness
pub use Rattle.cedar_requests.specs.Telling
pub use Rattle.cedar_requests.specs.ToldContexts
pub use Rattle.cedar_interpreter.specs.Asking as EvaluatorAsking
pub use Rattle.cedar_interpreter.specs.Holding as EvaluatorHolding
pub use Rattle.cedar_interpreter.specs.Meeting
pub use Rattle.cedar_interpreter.specs.Operating
pub use Rattle.cedar_interpreter.specs.Restricted
