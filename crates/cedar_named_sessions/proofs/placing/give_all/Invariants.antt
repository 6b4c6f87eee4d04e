-- Those before have their names.
use Rattle.std.proofs.Common.{◌≡◌, Ok, take}
use Rattle.cedar_held.specs.PolicyWorlds.{policies_in}
use Rattle.cedar_named_sessions.specs.Named.{named}
use Rattle.cedar_named_sessions.proofs.placing.give_all.Given as goal

abbrev pub invariant-loop-index : goal.invariant-loop-index
invariant-loop-index l = named (policies_in l.held) l.initial.names (take l.index l.placed) ≡ Ok l.names
