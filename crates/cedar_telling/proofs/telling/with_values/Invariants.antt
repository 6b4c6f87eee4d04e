use Rattle.std.proofs.Common.{◌≡◌, length}
use Rattle.cedar_entities.specs.Attributes.{seen_entries}
use Rattle.cedar_telling.specs.Tells.{told_in}
use Rattle.cedar_telling.specs.TellSteps.{with_attributes}
use Rattle.cedar_telling.proofs.telling.with_values.Given as goal

-- what is still to be put in, beside what is there
abbrev pub invariant-loop-name : goal.invariant-loop-name
invariant-loop-name l = with_attributes (told_in l.told.entries) (seen_entries l.fn.values.entries) ≡ with_attributes (told_in l.all.entries) (seen_entries l.values.entries)

abbrev pub decreases-loop-name : goal.decreases-loop-name
decreases-loop-name l = length l.values.entries
