-- What is asked: a question with missing parts and unknown names. And what is told for these.
pub use Rattle.cedar_partial_evaluation.specs.Question.{Part, Given, Missing, Entries, NoContext, WithEntries, Question, Told}
