-- The words so far are those of the identifiers that were passed.
use Rattle.std.proofs.Common.{◌≡◌, take}
use Rattle.cedar_conformance.proofs.names.words_of.Given as goal

abbrev pub invariant-loop-id : goal.invariant-loop-id
invariant-loop-id l = l.words.items ≡ take l.id-index l.ids
