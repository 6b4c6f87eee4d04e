-- What was there at first is followed by the entries that were passed.
use Rattle.std.proofs.Common.{◌≡◌, ◌++◌, take}
use Rattle.cedar_telling.proofs.joining.push_all.Given as goal

abbrev pub invariant-loop-id : goal.invariant-loop-id
invariant-loop-id l = l.entries.items ≡ l.fn.entries.items ++ take l.id-index l.more
