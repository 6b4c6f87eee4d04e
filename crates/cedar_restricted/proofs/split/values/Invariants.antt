-- The values so far and the items that are left are together the items that were given.
use Rattle.std.proofs.Common.{◌≡◌, ◌++◌, map}
use Rattle.either.specs.declared.Either.TheVariants.{Left}
use Rattle.cedar_restricted.specs.PartialValues.{partial_of}
use Rattle.cedar_restricted.proofs.split.values.Given as goal

abbrev pub invariant-loop-item : goal.invariant-loop-item
invariant-loop-item l = map partial_of l.fn.items.items ≡ map Left l.values.items ++ map partial_of l.item-iterator.rest.items
