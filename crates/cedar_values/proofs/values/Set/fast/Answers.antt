-- Where all members are literals, they are the literals among them.
use Rattle.std.proofs.Common.{◌∙◌, sym, ap, if◌then◌else◌, Some, None}
use Rattle.cedar_values.specs.LiteralSets.{literals_among}
use Rattle.cedar_values.proofs.values.Set.fast.Goals as goal

pub invariant_of-result : goal.invariant_of-result
invariant_of-result c = sym c.is_of_literals.ensures ∙ c.if-is_of_literals.true

pub returns-then-is_of_literals : goal.returns-then-is_of_literals
returns-then-is_of_literals c =
    ap (λ b. if b then Some (literals_among c.args.self.now) else None) (sym c.is_of_literals.ensures ∙ c.if-is_of_literals.true)
