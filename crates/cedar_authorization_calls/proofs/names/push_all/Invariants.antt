use Rattle.std.proofs.Common.{◌≡◌, ◌++◌, drop, map}
use Rattle.std.specs.Prelude.{string_bytes}
use Rattle.cedar_authorization_calls.proofs.names.push_all.Given as goal

abbrev pub invariant-loop-name : goal.invariant-loop-name
invariant-loop-name l = map (λ n. n.now) l.told.items ++ map string_bytes (drop l.name-index l.names) ≡ map (λ n. n.now) l.fn.told.items ++ map string_bytes l.names
