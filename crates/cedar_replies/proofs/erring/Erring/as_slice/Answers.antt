-- Entries that rise, each with a kind, are the entries of the map that they make.
use Rattle.std.proofs.Common.{ap, ◌∙◌}
use Rattle.cedar_replies.specs.Erring.{with_kinds}
use Rattle.cedar_replies.proofs.ErringIds.{kinds_listed}
use Rattle.cedar_replies.proofs.erring.Erring.as_slice.Goals as goal

pub returns-clause-entries : goal.returns-clause-entries
returns-clause-entries c = rw (← c.self.view_is) (ap with_kinds c.as_slice.ensures.value ∙ kinds_listed _ c.self.invariant.0 c.self.invariant.1)
