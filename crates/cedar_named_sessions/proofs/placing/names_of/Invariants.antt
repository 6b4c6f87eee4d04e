-- The names of those before are told.
use Rattle.std.proofs.Common.{◌≡◌, map, take}
use Rattle.cedar_named_sessions.specs.NameLists.{name_of}
use Rattle.cedar_named_sessions.proofs.placing.names_of.Given as goal

abbrev pub invariant-loop-policy : goal.invariant-loop-policy
invariant-loop-policy l = l.told.items ≡ map (λ p. name_of l.names p.0) (take l.policy-index l.placed)
