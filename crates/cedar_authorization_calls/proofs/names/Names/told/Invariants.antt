use Rattle.std.proofs.Common.{◌≡◌, ◌++◌, drop, map}
use Rattle.std.specs.List.{flat_map}
use Rattle.cedar_authorization_calls.specs.Naming.{names_at}
use Rattle.cedar_authorization_calls.proofs.names.Names.told.Given as goal

abbrev pub invariant-loop-id : goal.invariant-loop-id
invariant-loop-id l = map (λ n. n.now) l.told.items ++ flat_map (names_at l.self) (drop l.id-index l.ids) ≡ flat_map (names_at l.self) l.ids
