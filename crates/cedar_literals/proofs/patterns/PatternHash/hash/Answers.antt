-- Each element feeds what its meaning feeds, and there are as many of the one as of the other.
use Rattle.std.proofs.lemmas.List.{length-map}
use Rattle.std.proofs.lemmas.List.Folds.{flat_map-map}
use Rattle.cedar_literals.specs.Patterns.{elem_hash, elem_of}
use Rattle.cedar_literals.proofs.patterns.PatternHash.hash.Goals as goal

pub returns : goal.returns
returns g c =
    let items = c.self.inside.elems.value.items in
    rw (← c.self.view_is, flat_map-map elem_hash elem_of items, length-map items elem_of) c.hash.ensures
