-- What is left of both is equal exactly where both are.
use Rattle.std.proofs.Common.{◌≡◌, ◌↔◌}
use Rattle.cedar_entities.specs.Attributes.{seen_entries}
use Rattle.cedar_entities.proofs.attributes.same_entries.Given as goal

abbrev pub invariant-loop-name : goal.invariant-loop-name
invariant-loop-name l =
    goal.iterator-loop-name.can_next l.name-iterator ×
    goal.iterator-loop-name.is_finite l.name-iterator ×
    ((seen_entries l.others ≡ seen_entries l.name-iterator) ↔ (seen_entries l.b.entries ≡ seen_entries l.a.entries))
