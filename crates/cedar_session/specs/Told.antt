-- What a command is refused by whose text is refused.
use Rattle.cedar_parser.specs.Errors as cause
use Rattle.cedar_parser.specs.Errors.{Cause, cause_of}
use Rattle.cedar_parser.specs.declared.errors.ParseErrors.{ParseErrors}
use Rattle.cedar_parser.specs.declared.restricted.RestrictedExpressionParseError.{RestrictedExpressionParseError}
use Rattle.cedar_parser.specs.declared.restricted.RestrictedExpressionParseError.TheVariants as parse
use Rattle.cedar_replies.specs.declared.refusal.Refusal.{Refusal}
use Rattle.cedar_replies.specs.declared.refusal.Refusal.TheVariants.{Text, Depth, NotRestricted, Memory}
use Rattle.cedar_restricted.specs.declared.errors.RestrictedExpressionError.TheVariants as restricted

abbrev pub refusal_for : Cause → Refusal
refusal_for cause.outside_the_grammar = Text
refusal_for cause.means_nothing = Text
refusal_for cause.nested_too_deep = Depth
refusal_for cause.out_of_memory = Memory

-- by the first error
abbrev pub text_refusal : ParseErrors → Refusal
text_refusal errors = refusal_for (cause_of errors.0.head)

abbrev pub body_refusal : RestrictedExpressionParseError → Refusal
body_refusal (parse.Parse errors) = text_refusal errors
body_refusal (parse.InvalidRestrictedExpression (restricted.InvalidRestrictedExpression e)) = NotRestricted
body_refusal (parse.InvalidRestrictedExpression (restricted.Memory e)) = Memory
