-- What is still to come of the elements of a set, the arguments of a call and the pairs of a record.
use Rattle.std.specs.Prelude.{List, map}
use Rattle.std.specs.Slice.Iter.{iter_rest}
use Rattle.cedar_language.specs.Uid.{Text}
use Rattle.cedar_language.specs.Tree.{Tree}
use Rattle.cedar_trees.specs.Bare.{bare, bare_entries}
use Rattle.cedar_restricted.specs.declared.elements.RestrictedElements.{RestrictedElements}
use Rattle.cedar_restricted.specs.declared.elements.RestrictedPairs.{RestrictedPairs}

abbrev pub elements_left : RestrictedElements → List Tree
elements_left i = map bare (iter_rest i.items)

abbrev pub pairs_left : RestrictedPairs → List (Text × Tree)
pairs_left i = bare_entries i.entries
