-- What the body of a command is read as, or why it is refused.
use Rattle.std.specs.Prelude.{◌≡◌, ◌≤◌, false, Result, Ok, Err}
use Rattle.cedar_language.specs.Uid as uid
use Rattle.cedar_language.specs.Height.{height}
use Rattle.cedar_language.specs.Restricted.{is_restricted}
use Rattle.cedar_language.specs.Tree.{Tree}
use Rattle.cedar_world.specs.Setting.{Setting, IsBodyWithin, IsBody, BodyNestsWithin}
use Rattle.cedar_replies.specs.declared.refusal.Refusal.{Refusal}
use Rattle.cedar_replies.specs.declared.refusal.Refusal.TheVariants.{Text, Depth, NotRestricted, Memory}
use Rattle.cedar_restricted.specs.Views.{restricted_tree}
use Rattle.cedar_restricted.specs.declared.restricted.RestrictedExpr.{RestrictedExpr}

module _ (by : Setting) (text : uid.Text) where
  -- a body that is no higher than the limit, of which this holds
  abbrev pub IsLowBody : (Tree → Type 0) → Type 0
  IsLowBody Holds = (tree : Tree) × IsBodyWithin by by.depth text tree × (height tree ≤ by.depth) × Holds tree

  abbrev pub ReadsBody : Result RestrictedExpr Refusal → Type 0
  ReadsBody (Ok body) = IsLowBody (λ tree. tree ≡ restricted_tree body)
  ReadsBody (Err Text) = (tree : Tree) → IsBody by text tree → ⊥
  ReadsBody (Err Depth) = BodyNestsWithin by by.depth text → ⊥
  ReadsBody (Err NotRestricted) = IsLowBody (λ tree. is_restricted tree ≡ false)
  ReadsBody (Err Memory) = Unit {0}
  ReadsBody (Err _) = ⊥
