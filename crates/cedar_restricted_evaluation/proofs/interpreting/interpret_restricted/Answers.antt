-- What is found of the tree gives its meaning where all is known, its answer, and what is left of it.
use Rattle.std.proofs.Common.{◌<◌}
use Rattle.cedar_language.specs.Height.{height}
use Rattle.cedar_restricted.specs.Views.{borrowed_tree}
use Rattle.cedar_restricted_evaluation.specs.Findings.{Evaluates}
use Rattle.cedar_restricted_evaluation.proofs.Built.{gives_built, result_built}
use Rattle.cedar_restricted_evaluation.proofs.Known.{means, answers, left}
use Rattle.cedar_extensions.specs.Table.{as_table}
use Rattle.cedar_restricted_evaluation.proofs.interpreting.interpret_restricted.Goals as goal

pub returns-clause-meaning : goal.returns-clause-meaning
returns-clause-meaning g c =
    let given : Evaluates (as_table g.F.ExtensionFunctionObject.answers c.args.extensions.now) (borrowed_tree c.args.expr) (c.args.depth < height (borrowed_tree c.args.expr)) c.interpret.result = rw c.as_expr.ensures.tree at c.interpret.ensures.found in
    means (as_table g.F.ExtensionFunctionObject.answers c.args.extensions.now) (borrowed_tree c.args.expr) c.known_is_meaning.ensures c.args.depth c.interpret.result given

pub returns-clause-answer : goal.returns-clause-answer
returns-clause-answer g c =
    let given : Evaluates (as_table g.F.ExtensionFunctionObject.answers c.args.extensions.now) (borrowed_tree c.args.expr) (c.args.depth < height (borrowed_tree c.args.expr)) c.interpret.result = rw c.as_expr.ensures.tree at c.interpret.ensures.found in
    answers (as_table g.F.ExtensionFunctionObject.answers c.args.extensions.now) (borrowed_tree c.args.expr) c.args.depth c.interpret.result given

pub returns-clause-left : goal.returns-clause-left
returns-clause-left g c =
    let given : Evaluates (as_table g.F.ExtensionFunctionObject.answers c.args.extensions.now) (borrowed_tree c.args.expr) (c.args.depth < height (borrowed_tree c.args.expr)) c.interpret.result = rw c.as_expr.ensures.tree at c.interpret.ensures.found in
    left (as_table g.F.ExtensionFunctionObject.answers c.args.extensions.now) (borrowed_tree c.args.expr) c.args.depth c.interpret.result given

pub returns-clause-limit : goal.returns-clause-limit
returns-clause-limit g c = rw c.as_expr.ensures.tree at c.interpret.ensures.limit

pub returns-clause-built : goal.returns-clause-built
returns-clause-built g c =
    let given : Evaluates (as_table g.F.ExtensionFunctionObject.answers c.args.extensions.now) (borrowed_tree c.args.expr) (c.args.depth < height (borrowed_tree c.args.expr)) c.interpret.result = rw c.as_expr.ensures.tree at c.interpret.ensures.found in
    result_built (as_table g.F.ExtensionFunctionObject.answers c.args.extensions.now) (gives_built g.F.ExtensionFunctionObject.answers c.args.extensions.now) c.args.depth (borrowed_tree c.args.expr)
    (rw c.as_expr.ensures.tree at c.as_expr.ensures.restricted) c.interpret.result
    (answers (as_table g.F.ExtensionFunctionObject.answers c.args.extensions.now) (borrowed_tree c.args.expr) c.args.depth c.interpret.result given)
