-- An unknown comes of the built-in function alone, which gives it without a type, and a value of a caller's.
use Rattle.cedar_language.specs.Order.{all_of}
use Rattle.cedar_restricted.specs.PartialValues.{partial_of}
use Rattle.cedar_restricted_evaluation.proofs.Naming.{unknown_called, value_called}
use Rattle.cedar_restricted_evaluation.proofs.calls.call_declared.Goals as goal

pub returns-in-Unknown : goal.returns-in-Unknown
returns-in-Unknown g c =
    unknown_called g.F.ExtensionFunctionObject.answers c.args.extensions.now c.args.name.now (all_of c.args.args.now) c.in_ok-function.function.now c.in_ok-value.field-0 c.in-Unknown.unknown (partial_of c.unknown.result)
    c.args.extensions.now.named c.in_ok-function.ensures c.in_ok-value.ensures.meaning c.in_ok-value.ensures.unknown c.in-Unknown.is c.unknown.ensures

pub returns-in-Known : goal.returns-in-Known
returns-in-Known g c =
    value_called g.F.ExtensionFunctionObject.answers c.args.extensions.now c.args.name.now (all_of c.args.args.now) c.in_ok-function.function.now c.in_ok-value.field-0 c.in-Known.value (partial_of c.from.result)
    c.args.extensions.now.named c.in_ok-function.ensures c.in_ok-value.ensures.meaning c.in_ok-value.ensures.unknown c.in-Known.is c.from.ensures
