-- What an iterator over literals still yields.
use Rattle.std.specs.Prelude.{List}
use Rattle.std.specs.Slice.Iter.{iter_rest}
use Rattle.cedar_language.specs.Tree.{Literal}
use Rattle.cedar_values.specs.LiteralSets.{literals_among}
use Rattle.cedar_values.specs.declared.values.literal_sets.Literals.{Literals}

abbrev pub literals_left : Literals → List Literal
literals_left it = literals_among (iter_rest it.values)
