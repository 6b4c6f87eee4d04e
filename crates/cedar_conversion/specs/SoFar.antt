-- What a loop over a chain keeps: what stands for the part that is done, and what the rest makes of it.
use Rattle.std.specs.Prelude.{◌≡◌, Option, Result, Bool}
use Rattle.cedar_grammar.specs.Names.{Names}
use Rattle.cedar_grammar.specs.Steps.{◌>>=◌}
use Rattle.cedar_grammar.specs.Loose as loose
use Rattle.cedar_faults.specs.declared.kinds.ToASTErrorKind.{ToASTErrorKind}
use Rattle.cedar_faults.specs.declared.errors.ConversionError.{ConversionError}
use Rattle.cedar_faults.specs.Converts.{Converts}
use Rattle.cedar_faults.specs.Telling.{Told}
use Rattle.cedar_conversion.specs.declared.heads.Head.{Head}
use Rattle.cedar_conversion.specs.Shows.{Before, a_name, calls_method, accesses_show}
use Rattle.cedar_conversion.specs.Heads.{IsBefore}

pub record SoFar {E B R W V : Type 0} (stands_for : E → W → Type 0) (is_refused : W → Type 0) (refusal : B → Option R) (whole : Result E (ConversionError B)) (want : Option V) (rest : W → Option V) : Type 0 where
  pub value : Option W
  pub is : Converts stands_for is_refused refusal whole value
  pub same : want ≡ (value >>= rest)

-- each kind that is told so far, and each that the rest shows, the whole shows
pub record ToldSoFar {A E : Type 0} (part : Result A (ConversionError E)) (rest whole : ToASTErrorKind → Type 0) : Type 0 where
  pub told : (kind : ToASTErrorKind) → Told part kind → whole kind
  pub left : (kind : ToASTErrorKind) → rest kind → whole kind

-- the same between accesses: what stands before the rest of them, and whether the second one is a call, where a name stands there
pub record AccessedSoFar {E B : Type 0} (names : Names) (head : Result (Head E) (ConversionError B)) (is_called : Bool) (rest : loose.Accesses) (whole : ToASTErrorKind → Type 0) : Type 0 where
  pub before : Before
  pub is : IsBefore head before
  pub called : (n : loose.Name) → before ≡ a_name n → is_called ≡ calls_method rest
  pub told : ToldSoFar head (accesses_show names before rest) whole
