use Rattle.std.proofs.Common.{◌≡◌, ◌++◌, drop}
use Rattle.cedar_messages.specs.Json.{further_json}
use Rattle.cedar_messages.proofs.json.push_further.Given as goal

abbrev pub invariant-loop-fault : goal.invariant-loop-fault
invariant-loop-fault l = l.json.items ++ further_json (drop l.fault-index l.faults) ≡ l.fn.json.items ++ further_json l.faults
