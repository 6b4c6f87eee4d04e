-- What the look-up shows is read, and its errors are passed on.
use Rattle.std.proofs.Common.{ap, sym, subst, ◌∙◌}
use Rattle.cedar_language.specs.Operators.{attribute}
use Rattle.cedar_extensions.specs.Giving.{Gives}
use Rattle.cedar_operators.proofs.Passing.{passed}
use Rattle.cedar_operators.proofs.attributes.get_attr.Goals as goal

pub returns : goal.returns
returns c = λ facts f.
    subst (λ a. Gives (λ v. v) ⊥ c.read.result (attribute facts a c.args.of.now)) c.as_str.ensures.value (c.read.ensures (attribute facts c.as_str.result.now c.args.of.now) (c.in_ok-lookup.ensures facts f))

pub returns-in_err-lookup : goal.returns-in_err-lookup
returns-in_err-lookup c = λ facts f.
    passed (λ v. _) c.in_err-lookup.field-0.0 c.from_residual.result (λ k h. ap (λ a. attribute facts a c.args.of.now) (sym c.as_str.ensures.value) ∙ h.0) c.from_residual.ensures (c.in_err-lookup.ensures facts f)
