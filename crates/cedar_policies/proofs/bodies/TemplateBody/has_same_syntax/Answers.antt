-- The parts that are compared are all of the syntax.
use Rattle.std.proofs.Common.{◌∙◌, sym}
use Rattle.cedar_policies.specs.Bodies.{body_syntax}
use Rattle.cedar_policies.specs.Same.{syntaxes_decide}
use Rattle.cedar_policies.proofs.bodies.TemplateBody.has_same_syntax.Goals as goal

pub returns : goal.returns
returns c =
    let decided = syntaxes_decide (body_syntax c.args.self.now) (body_syntax c.args.other.now) in
    (λ h. decided.0 (sym c.has_same_parts.ensures ∙ h), λ e. c.has_same_parts.ensures ∙ decided.1 e)
