-- The trees of restricted expressions.
use Rattle.std.specs.Prelude.{List, map}
use Rattle.std.specs.Rc.{rc_str_bytes}
use Rattle.std.specs.declared.alloc.Global.{Global}
use Rattle.std.specs.declared.rc.RcStr.{RcStr}
use Rattle.cedar_language.specs.Tree.{Tree}
use Rattle.cedar_grammar.specs.Build.{Keyed}
use Rattle.cedar_trees.specs.Bare.{bare}
use Rattle.cedar_restricted.specs.declared.borrowed.BorrowedRestrictedExpr.{BorrowedRestrictedExpr}
use Rattle.cedar_restricted.specs.declared.restricted.RestrictedExpr.{RestrictedExpr}

abbrev pub restricted_tree : RestrictedExpr → Tree
restricted_tree r = bare r.expr

-- the same of one that is lent
abbrev pub borrowed_tree : BorrowedRestrictedExpr → Tree
borrowed_tree b = bare b.expr.now

-- entries, by their keys' texts
abbrev pub restricted_entries : List (RcStr Global × RestrictedExpr) → List (Keyed Tree)
restricted_entries es = map (λ e. (rc_str_bytes e.0, restricted_tree e.1)) es
