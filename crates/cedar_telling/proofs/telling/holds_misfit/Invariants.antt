-- Each value that was passed is of its unknown's kind, so the values to come decide.
use Rattle.std.proofs.Common.{◌≡◌}
use Rattle.cedar_entities.specs.Attributes.{seen_entries}
use Rattle.cedar_telling.specs.Questions.{question_of}
use Rattle.cedar_telling.specs.TellSteps.{some_misfit}
use Rattle.cedar_telling.proofs.telling.holds_misfit.Given as goal

abbrev pub invariant-loop-name : goal.invariant-loop-name
invariant-loop-name l =
    goal.iterator-loop-name.can_next l.name-iterator ×
    goal.iterator-loop-name.is_finite l.name-iterator ×
    (some_misfit (question_of l.asked) (seen_entries l.values.entries) ≡ some_misfit (question_of l.asked) (seen_entries l.name-iterator))
