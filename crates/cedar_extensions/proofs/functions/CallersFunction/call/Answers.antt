-- With another number of arguments than it takes the call is refused, and else the caller's function answers it.
use Rattle.std.proofs.Common.{◌∙◌, ap, subst, Err}
use Rattle.cedar_language.specs.Operators.{or_fails}
use Rattle.cedar_language.specs.Order.{all_of}
use Rattle.cedar_language.specs.Value.{FailedExtensionFunctionExecution}
use Rattle.cedar_extensions.specs.Answering.{Answered}
use Rattle.cedar_extensions.specs.Functions.{answers_of}
use Rattle.cedar_extensions.proofs.CountedCalls.{called_right, called_wrong}
use Rattle.cedar_extensions.proofs.functions.CallersFunction.call.Goals as goal

pub returns-in_ok-name-in-Some-clause-meaning : goal.returns-in_ok-name-in-Some-clause-meaning
returns-in_ok-name-in-Some-clause-meaning g c =
    rw c.wrong_num_arguments.ensures.kind
    (called_wrong (answers_of g.F.ExtensionFunctionObject.answers c.args.self.now) c.args.args.now c.in-Some.ensures.1)

pub returns-in-Ok-clause-meaning : goal.returns-in-Ok-clause-meaning
returns-in-Ok-clause-meaning g c =
    called_right (answers_of g.F.ExtensionFunctionObject.answers c.args.self.now) c.args.args.now c.in-None.ensures
    ∙ ap (or_fails FailedExtensionFunctionExecution) c.in-Ok.ensures

pub returns-in_ok-name-in-Err-NoAnswer-clause-meaning : goal.returns-in_ok-name-in-Err-NoAnswer-clause-meaning
returns-in_ok-name-in-Err-NoAnswer-clause-meaning g c =
    let none = subst (λ e. Answered ((g.F.ExtensionFunctionObject.answers c.args.self.now.object).given (all_of c.args.args.now)) (Err e)) c.in-Err-NoAnswer.field-0-is c.in-Err-NoAnswer.ensures in
    rw c.failed_extension_function_application.ensures.kind
    (called_right (answers_of g.F.ExtensionFunctionObject.answers c.args.self.now) c.args.args.now c.in-None.ensures
    ∙ ap (or_fails FailedExtensionFunctionExecution) none)
