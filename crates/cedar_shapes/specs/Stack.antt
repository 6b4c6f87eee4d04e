-- The stack of a walk.
use Rattle.std.specs.Prelude.{List, map}
use denote.Ref.{Bor}
use Rattle.cedar_language.specs.Tree.{Tree}
use Rattle.cedar_trees.specs.Bare.{bare}
use Rattle.cedar_trees.specs.declared.expr.Expr.{Expr}

abbrev pub stack_of : {T : Type 0} → List (Bor (Expr T)) → List Tree
stack_of es = map (λ e. bare e.now) es
