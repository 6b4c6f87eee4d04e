-- What an answer of partial evaluation means.
use Rattle.std.specs.Prelude.{◌≡◌, true, Option, Some}
use Rattle.cedar_language.specs.Uid.{Text, Name, Uid}
use Rattle.cedar_language.specs.Tree.{Entity, ValueType, EntityType, Variable, SlotId, Unknown}
use Rattle.cedar_language.specs.Value.{Value, Plain}
use Rattle.cedar_language.specs.Facts.{Facts}
use Rattle.cedar_partial_evaluation.specs.Settling.{Settling, Open, Errs, Is, Settlings, SomeErrs, AllAre, LeafSettlings, settled_in, all_settled_in}
use Rattle.cedar_partial_evaluation.specs.MadeAgain.{IsMadeAgain}
use Rattle.cedar_partial_evaluation.specs.Partial.{Answer, Evaluated, ResidualTree, Failed, Answers, AllEvaluated, SomeResiduals, SomeFailed, LeafAnswers}

-- an entity of the type
abbrev pub IsOfType : Name → Value → Type 0
IsOfType ty v = (u : Uid) × (v ≡ Plain (Entity u)) × (u.type_name ≡ ty)

-- what an answer means, kinds of errors aside
abbrev pub read : Facts → LeafSettlings → Answer → Settling
read facts around (Evaluated v) = Is v
read facts around (ResidualTree r) = settled_in facts around r
read facts around (Failed k) = Errs

abbrev pub read_all : Facts → LeafSettlings → Answers → Settlings
read_all facts around (AllEvaluated vs) = AllAre vs
read_all facts around (SomeResiduals rs) = all_settled_in facts around rs
read_all facts around (SomeFailed k) = SomeErrs

-- what is left is an unknown that states this type, and nothing is told of it
pub record IsStated (around : LeafSettlings) (p : Answer) (ty : Name) : Type 0 where
  pub name : Text
  pub is : p ≡ ResidualTree (Unknown name (Some (EntityType ty)))
  pub unsettled : around.unknown name (Some (EntityType ty)) ≡ Open
  pub untold : around.untold name ≡ true

-- an answer that is a value is made again by a tree for it
abbrev pub IsMadeAnswer : Facts → Answer → Type 0
IsMadeAnswer facts (Evaluated v) = IsMadeAgain facts v
IsMadeAnswer facts p = Unit {0}

pub record AreMadeLeaves (facts : Facts) (holds : LeafAnswers) : Type 0 where
  pub variable : (v : Variable) → IsMadeAnswer facts (holds.variable v)
  pub unknown : (n : Text) (ty : Option ValueType) → IsMadeAnswer facts (holds.unknown n ty)
  pub slot : (s : SlotId) → IsMadeAnswer facts (holds.slot s)
