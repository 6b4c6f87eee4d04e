-- What stands for each variable of a request.
use Rattle.std.specs.Prelude.{Option, Some, None, codes}
use Rattle.either.specs.declared.Either.{Either}
use Rattle.cedar_language.specs.Tree.{Variable, Principal, Action, Resource, Context, Tree, Unknown}
use Rattle.cedar_language.specs.Value.{Value}
use Rattle.cedar_partial_evaluation.specs.Partial.{Answer, ResidualTree}
use Rattle.cedar_partial_evaluation.specs.Question.{part_held}
use Rattle.cedar_restricted_evaluation.specs.Evaluations.{part_answer}
use Rattle.cedar_requests.specs.Holding.{RequestParts}

-- the context's record, or what is left of it; where none is given, the unknown that is named `context`
abbrev pub context_asked : Option (Either Value Tree) → Answer
context_asked (Some part) = part_answer part
context_asked None = ResidualTree (Unknown (codes "context") None)

-- what stands for a variable: an entity that is given, or the unknown that is named as the variable
abbrev pub variable_asked : RequestParts → Variable → Answer
variable_asked r Principal = part_held r.principal None (codes "principal")
variable_asked r Action = part_held r.action None (codes "action")
variable_asked r Resource = part_held r.resource None (codes "resource")
variable_asked r Context = context_asked r.context
