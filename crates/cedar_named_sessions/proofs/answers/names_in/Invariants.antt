-- The names of the ids before are told.
use Rattle.std.proofs.Common.{◌≡◌, map, take}
use Rattle.cedar_named_sessions.specs.NameLists.{name_of}
use Rattle.cedar_named_sessions.proofs.answers.names_in.Given as goal

abbrev pub invariant-loop-id : goal.invariant-loop-id
invariant-loop-id l = l.told.items ≡ map (name_of l.names) (take l.id-index l.ids)
