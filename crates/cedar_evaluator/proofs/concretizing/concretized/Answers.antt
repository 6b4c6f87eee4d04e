-- The error of the first variable of which another value is told is that of the request.
use Rattle.std.proofs.Common.{◌≡◌, Option, subst, rules}
use Rattle.std.specs.Prelude.{codes, Err, Ok}
use Rattle.std.specs.Option.{option_copied}
use Rattle.std.proofs.lemmas.Result.{err_from_is_err_and}
use Rattle.either.specs.declared.Either.{Either}
use Rattle.cedar_language.specs.Tree.{Principal, Action, Resource, Tree}
use Rattle.cedar_language.specs.Value.{Value}
use Rattle.cedar_extensions.specs.Table.{as_table}
use Rattle.cedar_requests.specs.Holding.{request_parts}
use Rattle.cedar_substitution.specs.Told.{told_for}
use Rattle.cedar_evaluator.specs.Concretizing.{TellsMaybeContext}
use Rattle.cedar_evaluator.proofs.Telling.{told_part, next_principal, next_action, next_resource, refused_at, context_refused}
use Rattle.cedar_evaluator.proofs.concretizing.concretized.Goals as goal

pub returns-in_err-principal : goal.returns-in_err-principal
returns-in_err-principal g c =
    let r = request_parts c.args.request.now in
    let told = told_for c.args.told.now.entries in
    let p = err_from_is_err_and c.from_residual.result c.from_residual.ensures.1 in
    let principal_is : option_copied c.find_told.result ≡ told (codes "principal") = search rules in
    rw (p.1, p.2)
    (refused_at (as_table g.F.ExtensionFunctionObject.answers c.args.extensions.now) c.args.depth c.args.told.now.entries r Principal (next_principal (as_table g.F.ExtensionFunctionObject.answers c.args.extensions.now) c.args.depth c.args.told.now.entries r) c.in_err-principal.field-0.0
    (told_part (codes "principal") _ r.principal _ (told (codes "principal")) (Err c.in_err-principal.field-0.0) c.principal.ensures.entity principal_is c.in_err-principal.ensures))

pub returns-in_err-action : goal.returns-in_err-action
returns-in_err-action g c =
    let r = request_parts c.args.request.now in
    let told = told_for c.args.told.now.entries in
    let p = err_from_is_err_and c.from_residual-in_err-action.result c.from_residual-in_err-action.ensures.1 in
    let principal_is : option_copied c.find_told.result ≡ told (codes "principal") = search rules in
    let action_is : option_copied c.find_told-2.result ≡ told (codes "action") = search rules in
    let principal = told_part (codes "principal") _ r.principal _ (told (codes "principal")) (Ok c.in_ok-principal.principal) c.principal.ensures.entity principal_is c.in_ok-principal.ensures in
    rw (p.1, p.2)
    (refused_at (as_table g.F.ExtensionFunctionObject.answers c.args.extensions.now) c.args.depth c.args.told.now.entries r Action (next_action (as_table g.F.ExtensionFunctionObject.answers c.args.extensions.now) c.args.depth c.args.told.now.entries r principal.0) c.in_err-action.field-0.0
    (told_part (codes "action") _ r.action _ (told (codes "action")) (Err c.in_err-action.field-0.0) c.action.ensures.entity action_is c.in_err-action.ensures))

pub returns-in_err-resource : goal.returns-in_err-resource
returns-in_err-resource g c =
    let r = request_parts c.args.request.now in
    let told = told_for c.args.told.now.entries in
    let p = err_from_is_err_and c.from_residual-in_err-resource.result c.from_residual-in_err-resource.ensures.1 in
    let principal_is : option_copied c.find_told.result ≡ told (codes "principal") = search rules in
    let action_is : option_copied c.find_told-2.result ≡ told (codes "action") = search rules in
    let resource_is : option_copied c.find_told-3.result ≡ told (codes "resource") = search rules in
    let principal = told_part (codes "principal") _ r.principal _ (told (codes "principal")) (Ok c.in_ok-principal.principal) c.principal.ensures.entity principal_is c.in_ok-principal.ensures in
    let action = told_part (codes "action") _ r.action _ (told (codes "action")) (Ok c.in_ok-action.action) c.action.ensures.entity action_is c.in_ok-action.ensures in
    rw (p.1, p.2)
    (refused_at (as_table g.F.ExtensionFunctionObject.answers c.args.extensions.now) c.args.depth c.args.told.now.entries r Resource (next_resource (as_table g.F.ExtensionFunctionObject.answers c.args.extensions.now) c.args.depth c.args.told.now.entries r principal.0 action.0) c.in_err-resource.field-0.0
    (told_part (codes "resource") _ r.resource _ (told (codes "resource")) (Err c.in_err-resource.field-0.0) c.resource.ensures.entity resource_is c.in_err-resource.ensures))

pub returns-in_err-context : goal.returns-in_err-context
returns-in_err-context g c =
    let r = request_parts c.args.request.now in
    let told = told_for c.args.told.now.entries in
    let p = err_from_is_err_and c.from_residual-in_err-context.result c.from_residual-in_err-context.ensures.1 in
    let principal_is : option_copied c.find_told.result ≡ told (codes "principal") = search rules in
    let action_is : option_copied c.find_told-2.result ≡ told (codes "action") = search rules in
    let resource_is : option_copied c.find_told-3.result ≡ told (codes "resource") = search rules in
    let principal = told_part (codes "principal") _ r.principal _ (told (codes "principal")) (Ok c.in_ok-principal.principal) c.principal.ensures.entity principal_is c.in_ok-principal.ensures in
    let action = told_part (codes "action") _ r.action _ (told (codes "action")) (Ok c.in_ok-action.action) c.action.ensures.entity action_is c.in_ok-action.ensures in
    let resource = told_part (codes "resource") _ r.resource _ (told (codes "resource")) (Ok c.in_ok-resource.resource) c.resource.ensures.entity resource_is c.in_ok-resource.ensures in
    rw (p.1, p.2)
    (context_refused (as_table g.F.ExtensionFunctionObject.answers c.args.extensions.now) c.args.depth c.args.told.now.entries r principal.0 action.0 resource.0 c.in_err-context.field-0.0
    (subst (λ (x : Option (Either Value Tree)). TellsMaybeContext (as_table g.F.ExtensionFunctionObject.answers c.args.extensions.now) c.args.depth c.args.told.now.entries x (Err c.in_err-context.field-0.0)) c.context.ensures c.in_err-context.ensures))
