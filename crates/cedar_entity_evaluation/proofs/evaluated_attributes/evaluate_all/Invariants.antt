use Rattle.cedar_extensions.specs.Table.{as_table}
use Rattle.cedar_restricted.specs.Views.{restricted_entries}
use Rattle.cedar_entity_evaluation.specs.Evaluated.{AreWithin}
use Rattle.cedar_entity_evaluation.proofs.Giving.{IsUnderway}
use Rattle.cedar_entity_evaluation.proofs.evaluated_attributes.evaluate_all.Given as goal

abbrev pub invariant-loop-name : goal.invariant-loop-name
invariant-loop-name g l =
    IsUnderway (as_table g.F.ExtensionFunctionObject.answers l.extensions) l.fn.exprs.entries l.name-iterator l.values.entries ×
    (AreWithin l.depth (restricted_entries l.name-iterator) → AreWithin l.depth (restricted_entries l.fn.exprs.entries))
