-- Values for which `==` holds are the same.
use Rattle.std.proofs.Common.{◌∙◌, sym}
use Rattle.cedar_language.specs.OrderLaws.{same_is}
use Rattle.cedar_values.proofs.values.Value.eq_and_same_source_loc.Goals as goal

pub returns-then-eq : goal.returns-then-eq
returns-then-eq c = λ _. same_is _ _ (sym c.eq.ensures ∙ c.if-eq.true)
