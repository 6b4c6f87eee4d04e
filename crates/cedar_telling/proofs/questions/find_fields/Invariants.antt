-- Each key that was passed is a question's, and what stands beside it was found.
use Rattle.std.proofs.Common.{◌≡◌}
use Rattle.cedar_trees.specs.Bare.{bare_entries}
use Rattle.cedar_world.specs.Bodies.{are_among, question_keys}
use Rattle.cedar_held.specs.Lent.{fields_in}
use Rattle.cedar_telling.proofs.FoundFields.{FoundSoFar}
use Rattle.cedar_telling.proofs.questions.find_fields.Given as goal

abbrev pub invariant-loop-key : goal.invariant-loop-key
invariant-loop-key l = record {
  can_next : goal.iterator-loop-key.can_next l.key-iterator;
  is_finite : goal.iterator-loop-key.is_finite l.key-iterator;
  among : are_among question_keys (fields_in l.entries) ≡ are_among question_keys (bare_entries l.key-iterator);
  found : FoundSoFar (fields_in l.entries) (bare_entries l.key-iterator) l.fields;
}
