use Rattle.std.proofs.Common.{◌≡◌, ◌++◌, drop, map}
use Rattle.std.specs.Prelude.{string_bytes}
use Rattle.cedar_authorization_calls.proofs.responding.push_errors.Given as goal

abbrev pub invariant-loop-name : goal.invariant-loop-name
invariant-loop-name l = map (λ e. e.policy.now) l.errors.items ++ map string_bytes (drop l.name-index l.names) ≡ map (λ e. e.policy.now) l.fn.errors.items ++ map string_bytes l.names
