-- The places so far and those of the members that are left are the places of all.
use Rattle.std.proofs.Common.{◌≡◌, ◌++◌, length, drop}
use Rattle.cedar_values.specs.Lookups.{places_from}
use Rattle.cedar_values.proofs.values.lookups.places_of.Given as goal

abbrev pub invariant-loop-member : goal.invariant-loop-member
invariant-loop-member l = l.places.items ++ places_from (length l.places.items) (drop l.member-index l.members) ≡ places_from 0 l.members
