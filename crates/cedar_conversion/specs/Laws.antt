-- What is proved of the trees that texts write.
use Rattle.std.specs.Prelude.{◌≡◌, Some, Ok, false, codes}
use Rattle.cedar_language.specs.Tree.{Tree}
use Rattle.cedar_grammar.specs.Names.{Names, is_among, is_function}
use Rattle.cedar_grammar.specs.Loose as loose
use Rattle.cedar_grammar.specs.Converting.{expr_tree}
use Rattle.cedar_builders.specs.Operations.{built}
use Rattle.cedar_builders.specs.Own.{own_operations}
use Rattle.cedar_grammar.specs.Functions.{the_unknown}
use Rattle.cedar_grammar.specs.UnknownCalls.{holds_call}

-- what the own builder makes of a tree that a text writes is that tree
abbrev pub TreesAreBuilt : Type 0
TreesAreBuilt = (names : Names) (e : loose.Expr) (t : Tree) → expr_tree names e ≡ Some t → built own_operations t ≡ Ok t

-- no text calls `unknown` where the table of names lacks it
abbrev pub CallsAreNamed : Type 0
CallsAreNamed = (names : Names) (e : loose.Expr) (t : Tree) → expr_tree names e ≡ Some t
    → is_function names the_unknown ≡ false → is_among (codes "unknown") names.methods ≡ false → holds_call t ≡ false
