-- A record that is restricted has restricted entries alone.
use Rattle.std.proofs.Common.{subst}
use Rattle.cedar_trees.specs.Bare.{bare}
use Rattle.cedar_telling.specs.TellSteps.{IsGivenRestricted}
use Rattle.cedar_telling.proofs.TellParts.{entries_restricted}
use Rattle.cedar_telling.proofs.wanted.context_entries.Goals as goal

pub returns-in-Some-clause-restricted : goal.returns-in-Some-clause-restricted
returns-in-Some-clause-restricted c = entries_restricted (bare c.in-Some.record.now) (subst IsGivenRestricted c.in-Some.is c.requires) c.entries_of.result c.entries_of.ensures.tree
