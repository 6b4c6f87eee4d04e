-- The attribute of what stands for the variable.
use Rattle.std.proofs.Common.{subst}
use Rattle.std.specs.Option.{option_copied}
use Rattle.cedar_literals.specs.Variables.{variable_of}
use Rattle.cedar_interpreter.specs.Glancing.{value_lent}
use Rattle.cedar_interpreter.specs.Seen.{IsSeen}
use Rattle.cedar_interpreter.proofs.Glanced.{attribute_of_variable, attribute_of_given}
use Rattle.cedar_interpreter.proofs.evaluator.Evaluator.glance_attribute_of.Goals as goal

pub returns-in_ok-given-in-Some : goal.returns-in_ok-given-in-Some
returns-in_ok-given-in-Some g c =
    let ev = c.args.self.now in
    let store = ev.entities.now in
    let u = c.in-Some.given.uid.now in
    attribute_of_given ev c.args.attr.now (variable_of c.args.var) c.attribute_of_held.result u c.in_ok-given-in-Some.field-0.now c.in-Some.ensures.seen.0
    (subst (λ o. IsSeen store u (option_copied o)) c.in_ok-given-in-Some.was c.in-Some.ensures.seen.1)
    (λ facts has held. c.attribute_of_held.ensures store facts u has held)

pub returns-in_ok-lent-in-None : goal.returns-in_ok-lent-in-None
returns-in_ok-lent-in-None g c =
    attribute_of_variable c.args.self.now c.args.attr.now (variable_of c.args.var) c.attribute_lent.result (value_lent c.in_ok-lent-in-None.lent) c.in_ok-lent-in-None.ensures c.attribute_lent.ensures
