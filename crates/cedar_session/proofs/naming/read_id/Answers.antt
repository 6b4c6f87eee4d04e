-- Rests on the tree of the body that was read, and on what `string_of` says of it.
use Rattle.std.proofs.Common.{sym, ap, ◌∙◌, Some}
use Rattle.std.proofs.lemmas.Result.{err_from_is_err_and}
use Rattle.cedar_restricted.specs.Views.{restricted_tree}
use Rattle.cedar_session.specs.Settings.{setting_with}
use Rattle.cedar_trees.specs.Bare.{bare}
use Rattle.cedar_session.proofs.PolicyCommands.{no_id}
use Rattle.cedar_session.proofs.Texts.{read_tree}
use Rattle.cedar_session.proofs.naming.read_id.Goals as goal

pub returns-in_err-body-clause-id : goal.returns-in_err-body-clause-id
returns-in_err-body-clause-id g c =
    let by = setting_with g.F.ExtensionFunctionObject.answers c.args.extensions.now c.args.depth in
    let p = err_from_is_err_and c.from_residual.result c.from_residual.ensures.1 in
    rw (p.1, p.2) (no_id by c.args.text.now c.in_err-body.field-0.0 c.in_err-body.ensures.body)

pub returns-in_default-clause-id : goal.returns-in_default-clause-id
returns-in_default-clause-id g c =
    let by = setting_with g.F.ExtensionFunctionObject.answers c.args.extensions.now c.args.depth in
    let tree = bare c.as_ref.result.now in
    let read = read_tree by c.args.text.now (restricted_tree c.in_ok-body.body) tree c.as_ref.ensures.tree c.in_ok-body.ensures.body in
    (tree, read.0, read.1, (c.as_ref.ensures.restricted, sym (rw c.in_default.is at c.string_of.ensures)))

pub returns-clause-id : goal.returns-clause-id
returns-clause-id g c =
    let by = setting_with g.F.ExtensionFunctionObject.answers c.args.extensions.now c.args.depth in
    let tree = bare c.as_ref.result.now in
    let read = read_tree by c.args.text.now (restricted_tree c.in_ok-body.body) tree c.as_ref.ensures.tree c.in_ok-body.ensures.body in
    (tree, read.0, read.1, (c.as_ref.ensures.restricted, sym (rw c.in-Some.is at c.string_of.ensures) ∙ ap Some (sym c.in_ok-clone.ensures.cases)))
