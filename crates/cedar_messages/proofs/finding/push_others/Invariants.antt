use Rattle.std.proofs.Common.{◌≡◌, ◌++◌, map, take}
use Rattle.cedar_messages.specs.Faults.{extent_of, reach}
use Rattle.cedar_messages.proofs.finding.push_others.Given as goal

abbrev pub invariant-loop-error : goal.invariant-loop-error
invariant-loop-error l = map reach l.faults.items ≡ map reach l.fn.faults.items ++ map (extent_of l.places.text.now) (take l.error-index l.errors)
