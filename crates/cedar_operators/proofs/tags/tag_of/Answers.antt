-- What stands there is what the facts have.
use Rattle.std.proofs.Common.{ap, ◌∙◌}
use Rattle.std.specs.FinMap as finite
use Rattle.cedar_restricted.specs.PartialValues.{partial_of}
use Rattle.cedar_operators.proofs.ByTag.{told_gives}
use Rattle.cedar_operators.proofs.tags.tag_of.Goals as goal

pub returns-in-Some : goal.returns-in-Some
returns-in-Some c = λ v e. told_gives v (partial_of c.in-Some.found.now) (c.in-Some.ensures ∙ ap (finite.get c.args.entity.now.tags) c.as_str.ensures.value ∙ e) c.told.result c.told.ensures
