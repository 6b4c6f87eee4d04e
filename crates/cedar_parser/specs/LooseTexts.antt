-- What is said of texts that are read loosely, by the first of their errors.
use Rattle.std.specs.Prelude.{ℕ, List, Result}
use Rattle.cedar_language.specs.Uid.{Text}
use Rattle.cedar_grammar.specs.Token.{Token}
use Rattle.cedar_grammar.specs.LooseReading.{Fault}
use Rattle.cedar_loose.specs.Texts.{IsRefused, IsOutside}
use Rattle.cedar_parser.specs.Errors.{cause_of}
use Rattle.cedar_parser.specs.declared.errors.ParseErrors.{ParseErrors}

abbrev pub Refuses : {A : Type 0} → (ℕ → List Token → Result A Fault) → ℕ → Text → ParseErrors → Type 0
Refuses read limit bytes errors = IsRefused read limit bytes (cause_of errors.0.head)

abbrev pub RefusesFlat : {A : Type 0} → (ℕ → List Token → Result A Fault) → Text → ParseErrors → Type 0
RefusesFlat read bytes errors = IsOutside read bytes (cause_of errors.0.head)
