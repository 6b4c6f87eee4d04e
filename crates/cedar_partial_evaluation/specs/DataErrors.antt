-- Data errs once its names have values where some part of it does, all of whose names have one.
use Rattle.std.specs.Prelude.{◌≡◌, ◌↔◌, true}
use Rattle.cedar_language.specs.Tree.{Operator, Tree, Apply, Trees, a_tree}
use Rattle.cedar_language.specs.Value.{Kind, Fails}
use Rattle.cedar_language.specs.Facts.{Facts}
use Rattle.cedar_language.specs.Meaning.{meaning}
use Rattle.cedar_language.specs.Restricted.{is_restricted}
use Rattle.cedar_partial_evaluation.specs.Prompt.{IsRefused}
use Rattle.cedar_partial_evaluation.specs.Question.{Told, held_names}
use Rattle.cedar_partial_evaluation.specs.Filling.{TellsEach, names_told}

-- data itself, or a part of one of its operands
mutual
  pub data IsPart : Tree → Tree → Type 0 where
    whole : {t : Tree} → IsPart t t
    inside : {p : Tree} {op : Operator} {ts : Trees} → IsPartOfOne p ts → IsPart p (Apply op ts)

  pub data IsPartOfOne : Tree → Trees → Type 0 where
    of_first : {p t : Tree} {ts : Trees} → IsPart p t → IsPartOfOne p (a_tree t ts)
    of_later : {p t : Tree} {ts : Trees} → IsPartOfOne p ts → IsPartOfOne p (a_tree t ts)

-- each of its names has a value, and with these it errs
abbrev pub FailsOnceTold : Facts → Told → Tree → Type 0
FailsOnceTold facts told p = TellsEach told p × (k : Kind) × (meaning facts (names_told told) p ≡ Fails k)

pub record HasErringPart (facts : Facts) (told : Told) (t : Tree) : Type 0 where
  pub part : Tree
  pub is_part : IsPart part t
  pub fails : FailsOnceTold facts told part

-- so a context is refused exactly where such a part stands in it
abbrev pub DataErrsInParts : Type 0
DataErrsInParts =
    (facts : Facts) (told : Told) (t : Tree) → is_restricted t ≡ true → IsRefused facts (held_names told) t ↔ HasErringPart facts told t
