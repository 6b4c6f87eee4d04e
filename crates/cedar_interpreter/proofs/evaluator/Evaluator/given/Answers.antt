-- What is given is what stands for the variable, and what was seen of it.
use Rattle.std.proofs.Common.{◌∙◌, ap, sym, subst}
use Rattle.cedar_literals.specs.Variables.{variable_of}
use Rattle.cedar_restricted.specs.PartialValues.{partial_of}
use Rattle.cedar_restricted_evaluation.specs.Evaluations.{part_answer}
use Rattle.cedar_interpreter.specs.Holding.{variable_held}
use Rattle.cedar_interpreter.specs.Seen.{IsSeenFor}
use Rattle.cedar_interpreter.specs.declared.evaluator.Variables.{Variables}
use Rattle.cedar_interpreter.proofs.Seen.{given_held}
use Rattle.cedar_interpreter.proofs.evaluator.Evaluator.given.Goals as goal

pub returns-in-Principal-clause-seen : goal.returns-in-Principal-clause-seen
returns-in-Principal-clause-seen g c =
    let ev = c.args.self.now in
    given_held ev (variable_of c.args.var) c.get-variables.result.now.principal c.given.result
    (ap (λ (vs : Variables). part_answer (partial_of vs.principal.part)) c.get-variables.ensures ∙ ap (λ v. variable_held ev (variable_of v)) (sym c.in-Principal.is))
    (subst (λ (vs : Variables). IsSeenFor ev.entities.now vs.principal) (sym c.get-variables.ensures) ev.are_seen.0)
    c.given.ensures.seen

pub returns-in-Action-clause-seen : goal.returns-in-Action-clause-seen
returns-in-Action-clause-seen g c =
    let ev = c.args.self.now in
    given_held ev (variable_of c.args.var) c.get-variables.result.now.action c.given-in-Action.result
    (ap (λ (vs : Variables). part_answer (partial_of vs.action.part)) c.get-variables.ensures ∙ ap (λ v. variable_held ev (variable_of v)) (sym c.in-Action.is))
    (subst (λ (vs : Variables). IsSeenFor ev.entities.now vs.action) (sym c.get-variables.ensures) ev.are_seen.1.0)
    c.given-in-Action.ensures.seen

pub returns-in-Resource-clause-seen : goal.returns-in-Resource-clause-seen
returns-in-Resource-clause-seen g c =
    let ev = c.args.self.now in
    given_held ev (variable_of c.args.var) c.get-variables.result.now.resource c.given-in-Resource.result
    (ap (λ (vs : Variables). part_answer (partial_of vs.resource.part)) c.get-variables.ensures ∙ ap (λ v. variable_held ev (variable_of v)) (sym c.in-Resource.is))
    (subst (λ (vs : Variables). IsSeenFor ev.entities.now vs.resource) (sym c.get-variables.ensures) ev.are_seen.1.1)
    c.given-in-Resource.ensures.seen
