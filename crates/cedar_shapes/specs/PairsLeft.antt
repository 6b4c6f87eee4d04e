-- The pairs of parts that are still to come.
use Rattle.std.specs.Prelude.{List}
use Rattle.cedar_language.specs.Tree.{Tree}
use Rattle.cedar_shapes.specs.Lists.{both}
use Rattle.cedar_shapes.specs.PartsLeft.{parts_left}
use Rattle.cedar_shapes.specs.declared.pairs.Pairs.{Pairs}

abbrev pub pairs_left : {T U : Type 0} → Pairs T U → List (Tree × Tree)
pairs_left p = both (parts_left p.left) (parts_left p.right)
