-- What errors of the loose parser say.
use Rattle.cedar_names.specs.declared.places.Span.{Span}
use Rattle.cedar_tokens.specs.declared.expected_kinds.Kinds.{Kinds}
use Rattle.cedar_loose.specs.declared.error.Met.{Met}
use Rattle.cedar_loose.specs.declared.errors.ToCSTError.{ToCSTError}
use Rattle.cedar_loose.specs.declared.errors.LooseError.{LooseError}
use Rattle.cedar_loose.specs.declared.errors.LooseError.TheVariants as error

-- why a text isn't parsed; that a part of it means nothing, its conversion alone tells
pub data Cause : Type 0 where
  outside_the_grammar : Cause
  means_nothing : Cause
  nested_too_deep : Cause
  out_of_memory : Cause

abbrev pub cause_of : LooseError → Cause
cause_of (error.ToCST e) = outside_the_grammar
cause_of error.Depth = nested_too_deep
cause_of error.Memory = out_of_memory

-- what stood where nothing could be read on
abbrev pub met_of : ToCSTError → Met
met_of e = e.met

-- where an error stands
abbrev pub span_of : ToCSTError → Span
span_of e = e.loc.span

-- the kinds of tokens that may stand there
abbrev pub expected_of : ToCSTError → Kinds
expected_of e = e.expected
