-- The entries before are told by their names.
use Rattle.std.proofs.Common.{◌≡◌, map, take}
use Rattle.cedar_named_sessions.specs.NameLists.{name_of}
use Rattle.cedar_named_sessions.proofs.answers.named_entries.Given as goal

abbrev pub invariant-loop-entry : goal.invariant-loop-entry
invariant-loop-entry l = l.told.items ≡ map (λ e. (name_of l.names e.0, e.1)) (take l.entry-index l.entries)
