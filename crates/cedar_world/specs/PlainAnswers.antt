-- Answers that call no function for an unknown.
use Rattle.std.specs.Prelude.{◌≡◌, false, Option}
use Rattle.cedar_language.specs.Uid.{Text}
use Rattle.cedar_language.specs.Tree.{Variable, SlotId, ValueType, Tree}
use Rattle.cedar_language.specs.Facts.{Facts}
use Rattle.cedar_partial_evaluation.specs.Partial.{Answer, ResidualTree, LeafAnswers, partial_in}
use Rattle.cedar_partial_evaluation.specs.ReadUnknowns.{calls_unknown}

-- what is left calls no function for an unknown
abbrev pub IsPlainAnswer : Answer → Type 0
IsPlainAnswer (ResidualTree t) = calls_unknown t ≡ false
IsPlainAnswer p = Unit {0}

pub record ArePlainLeaves (holds : LeafAnswers) : Type 0 where
  pub variable : (v : Variable) → IsPlainAnswer (holds.variable v)
  pub unknown : (n : Text) (ty : Option ValueType) → IsPlainAnswer (holds.unknown n ty)
  pub slot : (s : SlotId) → IsPlainAnswer (holds.slot s)

-- the answer to a tree that calls no function for an unknown is plain
abbrev pub PlainAnswers : Type 0
PlainAnswers = (facts : Facts) (holds : LeafAnswers) → ArePlainLeaves holds → (t : Tree) → calls_unknown t ≡ false → IsPlainAnswer (partial_in facts holds t)
