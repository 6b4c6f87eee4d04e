-- Those so far have their keys.
use Rattle.std.proofs.Common.{take}
use Rattle.std.specs.Prelude.{map}
use Rattle.cedar_schema_grammar.specs.Faults as grammar
use Rattle.cedar_schema_grammar.specs.Declared.{action_uid}
use Rattle.cedar_schema_resolution.specs.Declarations.{action_view}
use Rattle.cedar_schema_faults.specs.Repeats.{HaveKeys}
use Rattle.cedar_schema_faults.proofs.duplicates.keyed_actions.Given as goal

abbrev pub invariant-loop-action : goal.invariant-loop-action
invariant-loop-action l = record { keys : HaveKeys grammar.DuplicateAction (map action_uid (map action_view (take l.action-index l.actions))) l.keyed.items }
