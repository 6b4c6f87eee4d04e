-- A name calls the constructor, or a function that an extension declares.
use Rattle.std.proofs.Common.{◌∙◌, sym, subst, Option}
use Rattle.cedar_language.specs.Facts.{Function}
use Rattle.cedar_language.specs.Order.{all_of}
use Rattle.cedar_extensions.specs.Tables.{function_called, holds_unknown}
use Rattle.cedar_restricted_evaluation.specs.Findings.{CallsBy}
use Rattle.cedar_restricted_evaluation.proofs.Naming.{calls_constructor, calls_declared}
use Rattle.cedar_restricted_evaluation.proofs.calls.answer.Goals as goal

pub returns-then-is_constructor : goal.returns-then-is_constructor
returns-then-is_constructor g c =
    let declared = function_called g.F.ExtensionFunctionObject.answers c.args.extensions.now in
    let has_unknown = holds_unknown c.args.extensions.now in
    subst (λ (f : Option Function). CallsBy f has_unknown c.args.name.now (all_of c.args.args.now) c.construct.result)
    (sym (calls_constructor c.args.name.now declared (sym c.is_constructor.ensures ∙ c.if-is_constructor.true))) (c.construct.ensures has_unknown)

pub returns-else-is_constructor : goal.returns-else-is_constructor
returns-else-is_constructor g c =
    let declared = function_called g.F.ExtensionFunctionObject.answers c.args.extensions.now in
    let has_unknown = holds_unknown c.args.extensions.now in
    subst (λ (f : Option Function). CallsBy f has_unknown c.args.name.now (all_of c.args.args.now) c.call_declared.result)
    (sym (calls_declared c.args.name.now declared (sym c.is_constructor.ensures ∙ c.if-is_constructor.false))) c.call_declared.ensures
