-- Causes of errors.
use Rattle.std.proofs.Common.{◌≡◌, refl}
use Rattle.cedar_parser.specs.Errors.{out_of_memory, cause_of}
use Rattle.cedar_parser.specs.declared.errors.ParseError.{ParseError}
use Rattle.cedar_parser.specs.declared.errors.ParseError.TheVariants as error

-- an error that isn't want of memory has another cause
pub known_cause : (e : ParseError) → (e ≡ error.Memory → ⊥) → cause_of e ≡ out_of_memory → ⊥
known_cause (error.ToCST e) other is = absurd (cc)
known_cause (error.ToAST e) other is = absurd (cc)
known_cause error.Depth other is = absurd (cc)
known_cause error.Memory other is = other refl
