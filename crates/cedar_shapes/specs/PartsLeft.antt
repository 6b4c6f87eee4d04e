-- The parts that are still to come.
use Rattle.std.specs.Prelude.{List, [], ◌∷◌, Option, None, Some, map}
use Rattle.std.specs.Slice.Iter.{iter_rest}
use denote.Ref.{Bor}
use Rattle.cedar_language.specs.Tree.{Tree}
use Rattle.cedar_trees.specs.Bare.{bare}
use Rattle.cedar_trees.specs.declared.expr.Expr.{Expr}
use Rattle.cedar_shapes.specs.declared.parts.Operands.{Operands}
use Rattle.cedar_shapes.specs.declared.parts.Parts.{Parts}
use Rattle.cedar_shapes.specs.declared.parts.Parts.TheVariants.{Few, Items, Entries}

-- a part and these after it; nothing where there is none
abbrev pub led_by : {T : Type 0} → Option (Bor (Expr T)) → List Tree → List Tree
led_by None ts = []
led_by (Some e) ts = bare e.now ∷ ts

abbrev pub operands_left : {T : Type 0} → Operands T → List Tree
operands_left o = led_by o.first (led_by o.second (led_by o.third []))

abbrev pub parts_left : {T : Type 0} → Parts T → List Tree
parts_left (Few operands) = operands_left operands
parts_left (Items items) = map bare (iter_rest items)
parts_left (Entries entries) = map bare entries
