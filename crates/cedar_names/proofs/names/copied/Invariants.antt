-- The copies so far are those of the identifiers that were passed.
use Rattle.std.proofs.Common.{◌≡◌, take}
use Rattle.cedar_names.proofs.names.copied.Given as goal

abbrev pub invariant-loop-id : goal.invariant-loop-id
invariant-loop-id l = l.copies.items ≡ take l.id-index l.ids
