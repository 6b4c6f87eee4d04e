-- What stands there is what the facts have.
use Rattle.std.proofs.Common.{ap, ◌∙◌}
use Rattle.cedar_language.specs.Value.{EntityAttrDoesNotExist}
use Rattle.cedar_language.specs.Operators.{or_fails}
use Rattle.cedar_restricted.specs.PartialValues.{partial_of}
use Rattle.cedar_operators.proofs.ByLookup.{held_shows, none_there}
use Rattle.cedar_operators.proofs.lookups.in_held.Goals as goal

pub returns-in-Some : goal.returns-in-Some
returns-in-Some c = λ v e. held_shows EntityAttrDoesNotExist v (partial_of c.in-Some.part.now) c.in_part.result (c.in-Some.ensures ∙ e) c.in_part.ensures

pub returns-in-None : goal.returns-in-None
returns-in-None c = λ v e. ap (or_fails EntityAttrDoesNotExist) (none_there v (c.in-None.ensures ∙ e))
