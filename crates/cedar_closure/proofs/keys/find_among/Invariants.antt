-- None of the numbers that were passed stands for the key.
use Rattle.std.proofs.Common.{◌≡◌, drop}
use Rattle.cedar_closure.specs.Numbering.{is_numbered}
use Rattle.cedar_closure.proofs.keys.find_among.Given as goal

abbrev pub invariant-loop-number : goal.invariant-loop-number
invariant-loop-number g l = is_numbered g.K.PartialEq.eq l.keys (drop l.number-index l.numbers) l.key ≡ is_numbered g.K.PartialEq.eq l.keys l.numbers l.key
