-- The pairs so far, and what the map has left, are the entries of the map.
use Rattle.std.proofs.Common.{◌≡◌, ◌++◌}
use Rattle.cedar_conversion.proofs.records.pairs_of.Given as goal

abbrev pub invariant-entries : goal.invariant-entries
invariant-entries g l = l.pairs.items ++ l.key-iterator ≡ l.fn.map.entries
