-- What errors of the parser say.
use Rattle.std.specs.Prelude.{◌≡◌}
use Rattle.cedar_restricted.specs.Offences.{offence_told}
use Rattle.cedar_trees.specs.Bare.{bare}
pub use Rattle.cedar_loose.specs.Errors.{Cause, outside_the_grammar, means_nothing, nested_too_deep, out_of_memory}
use Rattle.cedar_parser.specs.declared.errors.ParseError.{ParseError}
use Rattle.cedar_parser.specs.declared.errors.ParseError.TheVariants as error
use Rattle.cedar_parser.specs.declared.literals.LiteralParseError.{LiteralParseError}
use Rattle.cedar_parser.specs.declared.literals.LiteralParseError.TheVariants as literal
use Rattle.cedar_parser.specs.declared.restricted.RestrictedExpressionParseError.{RestrictedExpressionParseError}
use Rattle.cedar_parser.specs.declared.restricted.RestrictedExpressionParseError.TheVariants as restricted
use Rattle.cedar_parser.specs.ErrorsLeft.{errors_of}

abbrev pub cause_of : ParseError → Cause
cause_of (error.ToCST e) = outside_the_grammar
cause_of (error.ToAST e) = means_nothing
cause_of error.Depth = nested_too_deep
cause_of error.Memory = out_of_memory

-- the same is told of a text that is no restricted expression
abbrev pub TellsSame : RestrictedExpressionParseError → RestrictedExpressionParseError → Type 0
TellsSame (restricted.Parse es) (restricted.Parse fs) = errors_of fs ≡ errors_of es
TellsSame (restricted.InvalidRestrictedExpression e) (restricted.InvalidRestrictedExpression f) = offence_told f ≡ offence_told e
TellsSame e f = ⊥

-- the same is told of a text that is no literal
abbrev pub TellsSameOfLiteral : LiteralParseError → LiteralParseError → Type 0
TellsSameOfLiteral (literal.Parse es) (literal.Parse fs) = errors_of fs ≡ errors_of es
TellsSameOfLiteral (literal.InvalidLiteral e) (literal.InvalidLiteral f) = bare f ≡ bare e
TellsSameOfLiteral e f = ⊥
