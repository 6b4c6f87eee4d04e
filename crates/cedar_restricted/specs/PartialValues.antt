-- Partial values: a value, or the tree of a residual.
use Rattle.std.specs.Prelude.{◌≡◌, Result, Ok, Err}
use Rattle.either.specs.declared.Either.{Either}
use Rattle.either.specs.declared.Either.TheVariants.{Left, Right}
use Rattle.cedar_language.specs.Tree.{Tree}
use Rattle.cedar_language.specs.Value.{Value}
use Rattle.cedar_trees.specs.Bare.{bare}
use Rattle.cedar_restricted.specs.Expressing.{Expresses}
use Rattle.cedar_restricted.specs.declared.partial_values.PartialValue.{PartialValue}
use Rattle.cedar_restricted.specs.declared.partial_values.PartialValue.TheVariants as partial
use Rattle.cedar_restricted.specs.declared.partial_values.PartialValueToValueError.{PartialValueToValueError}
use Rattle.cedar_restricted.specs.declared.partial_values.PartialValueToValueError.TheVariants.{ContainsUnknown}

abbrev pub partial_of : PartialValue → Either Value Tree
partial_of (partial.Value v) = Left v
partial_of (partial.Residual e) = Right (bare e)

-- the value that a partial value is, or the residual that it is
abbrev pub IsValueOf : PartialValue → Result Value PartialValueToValueError → Type 0
IsValueOf p (Ok v) = partial_of p ≡ Left v
IsValueOf p (Err (ContainsUnknown e)) = partial_of p ≡ Right (bare e.residual)

-- the tree writes the value, or it is the residual
abbrev pub PartExpresses : Either Value Tree → Tree → Type 0
PartExpresses (Left v) t = Expresses v t
PartExpresses (Right r) t = t ≡ r
