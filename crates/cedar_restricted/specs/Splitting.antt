-- Partial values that are split: values where all are, and else an expression for each.
use Rattle.std.specs.Prelude.{◌≡◌, ⊤, List, [], ◌∷◌, map, Bool, true, false, Vec}
use Rattle.std.specs.List.{list_any}
use Rattle.std.specs.declared.alloc.Global.{Global}
use Rattle.either.specs.declared.Either.{Either}
use Rattle.either.specs.declared.Either.TheVariants.{Left, Right}
use Rattle.cedar_language.specs.Tree.{Tree}
use Rattle.cedar_language.specs.Value.{Value}
use Rattle.cedar_trees.specs.Bare.{bare}
use Rattle.cedar_trees.specs.declared.expr.Expr.{Expr}
use Rattle.cedar_restricted.specs.PartialValues.{PartExpresses}

abbrev pub is_residual : Either Value Tree → Bool
is_residual (Left v) = false
is_residual (Right t) = true

-- so many trees, each of which writes what stands at its place
abbrev pub ExpressEach : List (Either Value Tree) → List Tree → Type 0
ExpressEach [] [] = ⊤
ExpressEach (p ∷ ps) (t ∷ ts) = PartExpresses p t × ExpressEach ps ts
ExpressEach ps ts = ⊥

-- the values themselves exactly where none is a residual, and else what writes each; both in order
abbrev pub IsSplitOf : List (Either Value Tree) → Either (Vec Value Global) (Vec (Expr (Unit {0})) Global) → Type 0
IsSplitOf ps (Left vs) = ps ≡ map Left vs.items
IsSplitOf ps (Right es) = (list_any is_residual ps ≡ true) × ExpressEach ps (map bare es.items)
