-- No name that was passed is the one that is looked for, so those to come decide.
use Rattle.std.proofs.Common.{◌≡◌}
use Rattle.std.specs.FinMap as finite
use Rattle.cedar_language.specs.Order.{text_cmp}
use Rattle.cedar_entities.specs.Attributes.{seen_entries}
use Rattle.cedar_entities.proofs.attributes.attribute_named.Given as goal

abbrev pub invariant-loop-key : goal.invariant-loop-key
invariant-loop-key l =
    goal.iterator-loop-key.can_next l.key-iterator ×
    goal.iterator-loop-key.is_finite l.key-iterator ×
    (finite.find text_cmp l.name (seen_entries l.attributes.entries) ≡ finite.find text_cmp l.name (seen_entries l.key-iterator))
