-- What the expressions of a builder stand for: the trees from which its operations make what they mean.
use Rattle.std.specs.Prelude.{◌≡◌, ⊤, List, map, Option, Result, Ok, Err, Vec}
use Rattle.std.specs.Result.{IsErr}
use Rattle.std.specs.Global.{Global}
use Rattle.cedar_language.specs.Tree.{Tree}
use Rattle.cedar_grammar.specs.Build.{trees}
use Rattle.cedar_builders.specs.Operations.{Operations, OnRefusal, built, built_all}
use Rattle.cedar_faults.specs.declared.errors.ConversionError.{ConversionError}
use Rattle.cedar_faults.specs.Reasons.{Reason, means_nothing, refused, out_of_memory, reason}
use Rattle.cedar_faults.specs.Converts.{Converts}

abbrev pub IsBuilt : {E M R : Type 0} → Operations M R → (E → M) → E → Tree → Type 0
IsBuilt o meaning e t = built o t ≡ Ok (meaning e)

abbrev pub AreBuilt : {E M R : Type 0} → Operations M R → (E → M) → Vec E Global → List Tree → Type 0
AreBuilt o meaning v ts = built_all o (trees ts) ≡ Ok (map meaning v.items)

-- the operations make nothing of it
abbrev pub IsRefused : {M R : Type 0} → Operations M R → Tree → Type 0
IsRefused o t = IsErr (built o t)

-- the operations make nothing of one of them
abbrev pub AreRefused : {M R : Type 0} → Operations M R → List Tree → Type 0
AreRefused o ts = IsErr (built_all o (trees ts))

-- an expression is given that is built from the tree, or the tree is refused, or there is none
abbrev pub MakesTree : {E B M R : Type 0} → Operations M R → (E → M) → (B → Option R) → Result E (ConversionError B) → Option Tree → Type 0
MakesTree o meaning refusal result want = Converts (IsBuilt o meaning) (IsRefused o) refusal result want

-- the same of several
abbrev pub MakesTrees : {E B M R : Type 0} → Operations M R → (E → M) → (B → Option R) → Result (Vec E Global) (ConversionError B) → Option (List Tree) → Type 0
MakesTrees o meaning refusal result want = Converts (AreBuilt o meaning) (AreRefused o) refusal result want

-- why nothing was taken: the builder's own error
abbrev pub TakesNot : {B M R : Type 0} → (B → Option R) → Reason B → Result M R → Type 0
TakesNot refusal means_nothing meant = ⊥
TakesNot refusal (refused b) meant = OnRefusal (refusal b) meant
TakesNot refusal out_of_memory meant = ⊤

-- what a builder gave, where it should give this
abbrev pub Takes : {E B M R : Type 0} → (E → M) → (B → Option R) → Result E (ConversionError B) → Result M R → Type 0
Takes meaning refusal (Ok e) meant = meant ≡ Ok (meaning e)
Takes meaning refusal (Err f) meant = TakesNot refusal (reason f) meant
