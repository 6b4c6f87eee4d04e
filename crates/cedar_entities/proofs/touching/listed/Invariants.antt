-- The uids listed and those still to come are the set's.
use Rattle.std.proofs.Common.{◌≡◌, ◌++◌}
use Rattle.std.specs.List.{list_any}
use Rattle.cedar_language.specs.Uid.{Uid}
use Rattle.cedar_language.specs.Order.{same_uid}
use Rattle.cedar_entities.proofs.touching.listed.Given as goal

abbrev pub invariant-loop-uid : goal.invariant-loop-uid
invariant-loop-uid l = (q : Uid) → list_any (same_uid q) (l.list.items ++ l.uid-iterator) ≡ list_any (same_uid q) l.uids.keys
