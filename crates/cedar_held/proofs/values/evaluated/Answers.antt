-- What is answered of a restricted tree says which value it has, that an unknown is in it, or what errs.
use Rattle.std.proofs.Common.{Ok, Err, subst}
use Rattle.cedar_trees.specs.Bare.{bare}
use Rattle.cedar_extensions.specs.Table.{as_table}
use Rattle.cedar_restricted_evaluation.specs.Evaluations as evaluation
use Rattle.cedar_held.proofs.Entries.{has_unknown, value_is, refusal_is}
use Rattle.cedar_held.proofs.Reading.{trees_are_read}
use Rattle.cedar_held.proofs.values.evaluated.Goals as goal

pub returns-in-Ok-clause-evaluated : goal.returns-in-Ok-clause-evaluated
returns-in-Ok-clause-evaluated g c =
    let answer : evaluation.Answers (as_table g.F.ExtensionFunctionObject.answers c.args.extensions.now) c.args.depth (bare c.args.expr.now) (Ok c.in-Ok.value) =
    subst (λ t. evaluation.Answers (as_table g.F.ExtensionFunctionObject.answers c.args.extensions.now) c.args.depth t (Ok c.in-Ok.value)) c.new_unchecked-tree.ensures c.in-Ok.ensures.answer in
    value_is trees_are_read (as_table g.F.ExtensionFunctionObject.answers c.args.extensions.now) (has_unknown g.F.ExtensionFunctionObject.answers c.args.extensions.now c.args.extensions.now.named) c.args.depth (bare c.args.expr.now) c.requires c.in-Ok.value answer

pub returns-in-Err-clause-evaluated : goal.returns-in-Err-clause-evaluated
returns-in-Err-clause-evaluated g c =
    let answer : evaluation.Answers (as_table g.F.ExtensionFunctionObject.answers c.args.extensions.now) c.args.depth (bare c.args.expr.now) (Err c.in-Err.error) =
    subst (λ t. evaluation.Answers (as_table g.F.ExtensionFunctionObject.answers c.args.extensions.now) c.args.depth t (Err c.in-Err.error)) c.new_unchecked-tree.ensures c.in-Err.ensures.answer in
    refusal_is trees_are_read (as_table g.F.ExtensionFunctionObject.answers c.args.extensions.now) (has_unknown g.F.ExtensionFunctionObject.answers c.args.extensions.now c.args.extensions.now.named) c.args.depth (bare c.args.expr.now) c.requires c.in-Err.error c.refusal.result c.refusal.ensures answer
