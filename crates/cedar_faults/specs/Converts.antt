-- What a conversion gives: what stands for the value that should be given, or faults where there is none.
use Rattle.std.specs.Prelude.{◌≡◌, ⊤, Option, Some, None, IfSome, Result, Ok, Err}
use Rattle.cedar_grammar.specs.Steps.{◌>>=◌}
use Rattle.cedar_faults.specs.declared.errors.ConversionError.{ConversionError}
use Rattle.cedar_faults.specs.Reasons.{Reason, means_nothing, refused, out_of_memory, reason}

-- what is made of a part, where there is one
abbrev pub and_then : {A B : Type 0} → Option A → (A → Option B) → Option B
and_then v f = v >>= f

-- something should be given, and it is what `e` stands for
pub record Given {E W : Type 0} (stands_for : E → W → Type 0) (e : E) (want : Option W) : Type 0 where
  pub value : W
  pub is : want ≡ Some value
  pub stands : stands_for e value

-- why nothing is given: nothing should be; or what should be is refused, where the builder's error is no want
-- of memory; of memory nothing is said
abbrev pub Misses : {B R W : Type 0} → (W → Type 0) → (B → Option R) → Reason B → Option W → Type 0
Misses is_refused refusal means_nothing want = want ≡ None
Misses is_refused refusal (refused b) want = IfSome (refusal b) (λ r. IfSome want is_refused)
Misses is_refused refusal out_of_memory want = ⊤

abbrev pub Converts : {E B R W : Type 0} → (E → W → Type 0) → (W → Type 0) → (B → Option R) → Result E (ConversionError B) → Option W → Type 0
Converts stands_for is_refused refusal (Ok e) want = Given stands_for e want
Converts stands_for is_refused refusal (Err f) want = Misses is_refused refusal (reason f) want

-- of a leaf: nothing is built
abbrev pub Lacks : {B W : Type 0} → Reason B → Option W → Type 0
Lacks means_nothing want = want ≡ None
Lacks (refused b) want = ⊥
Lacks out_of_memory want = ⊤

-- what is seen is what should be given, faults stand where nothing should be, and else memory ran out
abbrev pub Finds : {E B W : Type 0} → (E → W) → Result E (ConversionError B) → Option W → Type 0
Finds seen (Ok e) want = want ≡ Some (seen e)
Finds seen (Err f) want = Lacks (reason f) want
