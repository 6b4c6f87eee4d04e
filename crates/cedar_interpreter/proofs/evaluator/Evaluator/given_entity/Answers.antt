-- What is given stands for the variable in what is asked.
use Rattle.std.proofs.Common.{◌∙◌}
use Rattle.std.specs.Option.{option_copied}
use Rattle.cedar_literals.specs.Variables.{variable_of}
use Rattle.cedar_interpreter.proofs.Seen.{entity_given, given_asked}
use Rattle.cedar_interpreter.proofs.evaluator.Evaluator.given_entity.Goals as goal

pub returns-clause-given : goal.returns-clause-given
returns-clause-given g c = λ variables told store table depth is.
    c.given.ensures.stands ∙ entity_given g.F.ExtensionFunctionObject.answers c.args.self.now variables told store table depth is (variable_of c.args.var)

pub returns-clause-seen : goal.returns-clause-seen
returns-clause-seen g c = λ variables told store table depth is.
    given_asked g.F.ExtensionFunctionObject.answers c.args.self.now variables told store table depth is (variable_of c.args.var) (λ given. given.uid.now) (λ given. option_copied given.entity) c.given.result c.given.ensures.seen
