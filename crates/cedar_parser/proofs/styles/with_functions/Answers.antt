-- A function that is pushed is the next of the names.
use Rattle.std.proofs.Common.{◌≡◌, ◌∙◌, ◌++◌, ◌∷◌, [], subst, ap, rules, true, false}
use Rattle.cedar_grammar.specs.Functions.{as_function, function_names}
use Rattle.cedar_extensions.specs.Functions.{function_name, function_style, is_unknown}
use Rattle.cedar_extensions.specs.Holding.{are_named}
use Rattle.cedar_extensions.specs.Tables.{functions_in, functions_left}
use Rattle.cedar_extensions.proofs.Defined.{callers}
use Rattle.cedar_parser.proofs.Callers.{rest_named, function_listed, pushed_next}
use Rattle.cedar_parser.proofs.styles.with_functions.Goals as goal

pub loop-function-preserved-then-eq : goal.loop-function-preserved-then-eq
loop-function-preserved-then-eq g c =
    let answers = g.F.ExtensionFunctionObject.answers in
    let f = c.in-Some.function.now in
    let rest = functions_left c.next.new.self in
    let step : functions_left c.loop-function.function-iterator ≡ f ∷ rest = c.in-Some.ensures.steps in
    let named = subst (λ fs. are_named fs ≡ true) step c.loop-function.invariant.0 in
    let other : is_unknown f ≡ false = search rules in
    let style : function_style f ≡ as_function = search rules in
    let pushed : c.push.new.self.items ≡ c.loop-function.all.items ++ function_name f ∷ [] = search rules in (
      rest_named answers f rest named,
      pushed_next c.loop-function.all.items c.push.new.self.items (function_names (callers answers (functions_left c.loop-function.function-iterator))) (function_names (callers answers rest))
          (c.args.names.items ++ function_names (callers answers (functions_in c.args.extensions.now))) (function_name f) c.loop-function.invariant.1
          (ap (λ fs. function_names (callers answers fs)) step ∙ function_listed answers f rest named other style) pushed,
    )
