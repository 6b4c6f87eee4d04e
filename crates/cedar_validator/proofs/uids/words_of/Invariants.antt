-- The words so far are those passed.
use Rattle.std.proofs.Common.{◌≡◌, take}
use Rattle.cedar_validator.proofs.uids.words_of.Given as goal

abbrev pub invariant-loop-id : goal.invariant-loop-id
invariant-loop-id l = l.words.items ≡ take l.id-index l.ids
