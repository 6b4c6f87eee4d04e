-- What is wrong with a text that isn't read, and what is told of it.
use Rattle.std.specs.Prelude.{◌≡◌, ◌≢◌, List, Option, Some, None, map, option_map}
use Rattle.cedar_language.specs.Uid.{Text}
use Rattle.cedar_names.specs.declared.places.Span.{Span}
use Rattle.cedar_loose.specs.Errors.{span_of}
use Rattle.cedar_parser.specs.Errors.{cause_of, out_of_memory}
use Rattle.cedar_parser.specs.ErrorsLeft.{errors_of}
use Rattle.cedar_parser.specs.declared.errors.ParseError.{ParseError}
use Rattle.cedar_parser.specs.declared.errors.ParseError.TheVariants as error
use Rattle.cedar_parser.specs.declared.errors.ParseErrors.{ParseErrors}
use Rattle.cedar_messages.specs.declared.fault.Fault.{Fault}
use Rattle.cedar_messages.specs.declared.places.Extent.{Extent}
use Rattle.cedar_messages.specs.declared.places.Position.{Position}
use Rattle.cedar_messages.specs.Places.{extent_at}
use Rattle.cedar_messages.specs.Telling.{TellsEach, TellsOf}

-- from where to where a fault reaches, if that is known
abbrev pub reach : Fault → Option Extent
reach fault = fault.extent

-- where it begins
abbrev pub start_of : Option Extent → Option Position
start_of extent = option_map (λ x. x.start) extent

-- the bytes of a text that an error is of, if they are known
abbrev pub bytes_of : ParseError → Option Span
bytes_of (error.ToCST e) = Some (span_of e)
bytes_of (error.ToAST e) = option_map (λ loc. loc.span) e.loc
bytes_of error.Depth = None
bytes_of error.Memory = None

-- from where to where they reach in the text
abbrev pub extent_of : Text → ParseError → Option Extent
extent_of text e = option_map (extent_at text) (bytes_of e)

-- A fault for each error of a text, in order, with its place.
abbrev pub AreFaultsOf : Text → ParseErrors → List Fault → Type 0
AreFaultsOf text errors faults = map reach faults ≡ map (extent_of text) (errors_of errors)

-- the same of errors of which the first isn't want of memory
abbrev pub AreUnread : Text → ParseErrors → List Fault → Type 0
AreUnread text errors faults = (cause_of errors.0.head ≢ out_of_memory) × AreFaultsOf text errors faults

-- what is told of a fault
abbrev pub Tells : Text → Fault → Text → Type 0
Tells name fault told = TellsOf name (start_of (reach fault)) told

-- where an error stands in its text, if that is known
abbrev pub place_of : Text → ParseError → Option Position
place_of text e = start_of (extent_of text e)

-- what is told of one error
abbrev pub TellsFault : Text → Text → ParseError → Text → Type 0
TellsFault name text e told = TellsOf name (place_of text e) told

-- what is told of each error of a text, of which the first isn't want of memory
abbrev pub TellsErrors : Text → Text → ParseErrors → Text → Type 0
TellsErrors name text errors told = (cause_of errors.0.head ≢ out_of_memory) × TellsEach (TellsFault name text) (errors_of errors) told
