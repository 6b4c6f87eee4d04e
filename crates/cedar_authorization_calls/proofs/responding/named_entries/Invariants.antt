use Rattle.std.proofs.Common.{◌≡◌, ◌++◌, drop, map}
use Rattle.std.specs.List.{flat_map}
use Rattle.cedar_authorization_calls.specs.Naming.{names_at}
use Rattle.cedar_authorization_calls.proofs.responding.named_entries.Given as goal

abbrev pub invariant-loop-entry : goal.invariant-loop-entry
invariant-loop-entry l = map (λ e. e.policy.now) l.errors.items ++ flat_map (λ e. names_at l.names e.0) (drop l.entry-index l.entries) ≡ flat_map (λ e. names_at l.names e.0) l.entries
