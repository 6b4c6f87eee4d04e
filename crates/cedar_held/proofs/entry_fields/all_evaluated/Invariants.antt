use Rattle.cedar_extensions.specs.Table.{as_table}
use Rattle.cedar_held.proofs.Entries.{IsUnderway}
use Rattle.cedar_held.proofs.entry_fields.all_evaluated.Given as goal

abbrev pub invariant-loop-name : goal.invariant-loop-name
invariant-loop-name g l =
    (goal.iterator-loop-name g).can_next l.name-iterator ×
    (goal.iterator-loop-name g).is_finite l.name-iterator ×
    IsUnderway (as_table g.F.ExtensionFunctionObject.answers l.extensions) l.entries.entries l.name-iterator l.values.entries l.holds_unknown
