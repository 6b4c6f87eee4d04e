-- When a builder's refusal is answered: where the tree has a meaning.
use Rattle.std.specs.Prelude.{◌≡◌, ⊤, Option, IsSome, Result, Ok, Err}
use Rattle.cedar_faults.specs.declared.errors.ConversionError.{ConversionError}
use Rattle.cedar_faults.specs.Reasons.{Reason, means_nothing, refused, out_of_memory, reason}

-- the builder's own error stands only where there is something that it could have built
abbrev pub IsMeant : {B W : Type 0} → Reason B → Option W → Type 0
IsMeant (refused b) want = IsSome want
IsMeant r want = ⊤

-- by why nothing was given again: faults count, and else memory ran out
abbrev pub WeighsNot : {B F : Type 0} → Reason F → Reason B → Type 0
WeighsNot means_nothing answered = answered ≡ means_nothing
WeighsNot r answered = answered ≡ out_of_memory

-- what a refusal is answered as, by what the same tree was converted to again: it stands where something was given
abbrev pub Weighs : {T B F : Type 0} → Reason B → Result T (ConversionError F) → Reason B → Type 0
Weighs refusal (Ok x) answered = answered ≡ refusal
Weighs refusal (Err e) answered = WeighsNot (reason e) answered
