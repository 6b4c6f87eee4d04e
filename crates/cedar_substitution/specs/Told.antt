-- What stands for an unknown: the tree that is told for its name, or else the unknown itself.
use Rattle.std.specs.Prelude.{◌≡◌, List, Option, None, Some, Ok}
use Rattle.std.specs.Map.{lookup}
use Rattle.std.specs.Rc.{rc_str_bytes}
use Rattle.std.specs.Str.{bytes_eq}
use Rattle.std.specs.declared.alloc.Global.{Global}
use Rattle.std.specs.declared.rc.RcStr.{RcStr}
use Rattle.cedar_language.specs.Uid.{Text}
use Rattle.cedar_language.specs.Tree.{ValueType, Tree, Unknown}
use Rattle.cedar_trees.specs.Bare.{bare}
use Rattle.cedar_trees.specs.declared.expr.Expr.{Expr}
use Rattle.cedar_builders.specs.Operations.{made}
use Rattle.cedar_builders.specs.Own.{own_operations}
use Rattle.cedar_substitution.specs.Chains.{with_built}
use Rattle.cedar_substitution.specs.Rising.{RecordsRiseWith}

-- what is told for a name
abbrev pub told_for : {A : Type 0} → List (RcStr Global × A) → Text → Option A
told_for told name = lookup (λ k. bytes_eq name (rc_str_bytes k)) told

abbrev pub tree_or : Option (Expr (Unit {0})) → Tree → Tree
tree_or None t = t
tree_or (Some e) t = bare e

abbrev pub told_tree : List (RcStr Global × Expr (Unit {0})) → Text → Option ValueType → Tree
told_tree told name ty = tree_or (told_for told name) (Unknown name ty)

-- the own builder makes this tree of a tree with what is told in the places of its unknowns
abbrev pub Substitutes : (Text → Option ValueType → Tree) → Tree → Tree → Type 0
Substitutes told t substituted = record {
  made : made own_operations (with_built own_operations told) t ≡ Ok substituted;
  rising : RecordsRiseWith told t;
}
