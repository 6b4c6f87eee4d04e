use Rattle.std.proofs.Common.{◌≡◌, ◌++◌, drop}
use Rattle.std.specs.List.{flat_map}
use Rattle.cedar_messages.specs.Json.{escape}
use Rattle.cedar_messages.proofs.json.push_escaped.Given as goal

abbrev pub invariant-loop-byte : goal.invariant-loop-byte
invariant-loop-byte l = l.json.items ++ flat_map escape (drop l.byte-index l.bytes) ≡ l.fn.json.items ++ flat_map escape l.bytes
