use Rattle.std.proofs.Common.{◌≡◌}
use Rattle.cedar_grammar.specs.Build.{keys}
use Rattle.cedar_trees.proofs.Records.{all_put}
use Rattle.cedar_conversion.specs.Entries.{keyed, ordered}
use Rattle.cedar_conversion.proofs.Ordering.{given}
use Rattle.cedar_conversion.proofs.Twice.{TwiceSoFar}
use Rattle.cedar_conversion.proofs.records.map_of.Given as goal

abbrev pub invariant-pairs : goal.invariant-pairs
invariant-pairs g l = record {
  map : ordered (keyed l.fn.pairs.items) ≡ given (all_put (keyed l.map.entries) (keyed l.key-iterator.rest.items));
  twice : TwiceSoFar (keys (keyed l.map.entries)) (keys (keyed l.key-iterator.rest.items)) (keys (keyed l.fn.pairs.items));
}
