-- The world reads the bodies that are written, unknowns named; its answer is what all of them are made to.
use Rattle.std.proofs.Common.{Ok, Err, Option, List, map, subst}
use Rattle.std.specs.Global.{Vec}
use Rattle.std.proofs.lemmas.Result.{err_from_is_err_and}
use Rattle.cedar_trees.specs.Bare.{bare}
use Rattle.cedar_extensions.specs.Table.{as_table}
use Rattle.cedar_restricted.specs.Views.{borrowed_tree}
use Rattle.cedar_replies.specs.declared.refusal.Refusal.TheVariants.{NotAValue}
use Rattle.cedar_entities.specs.Data.{EntityData}
use Rattle.cedar_held.specs.declared.entities.EntityBody.{EntityBody}
use Rattle.cedar_held.specs.Entities.{written_of, all_written}
use Rattle.cedar_held.specs.Listing.{AreMade}
use Rattle.cedar_held.proofs.Listed as listed
use Rattle.cedar_held.proofs.listing.listed_entities.Goals as goal

pub entities_of-requires : goal.entities_of-requires
entities_of-requires g c =
    let written = rw c.in-Some.is at c.in_ok-bodies.ensures.written in
    rw c.deref.ensures.value (listed.all_restricted (as_table g.F.ExtensionFunctionObject.answers c.args.extensions.now) c.args.depth (bare c.as_expr.result.now) (all_written c.in-Some.bodies) written c.as_expr.ensures.restricted)

pub returns-in_err-entities_of-clause-listed : goal.returns-in_err-entities_of-clause-listed
returns-in_err-entities_of-clause-listed g c =
    let written = rw c.in-Some.is at c.in_ok-bodies.ensures.written in
    let bodies = rw c.in-Some.is at c.in_ok-bodies.ensures.bodies in
    let made = subst (λ (xs : List EntityBody). AreMade (as_table g.F.ExtensionFunctionObject.answers c.args.extensions.now) c.args.depth (map written_of xs) (Err c.in_err-entities_of.field-0.0)) c.deref.ensures.value c.in_err-entities_of.ensures in
    let p = err_from_is_err_and c.from_residual-in_err-entities_of.result c.from_residual-in_err-entities_of.ensures.1 in
    rw (p.1, p.2) (λ by serves.
    listed.along (as_table g.F.ExtensionFunctionObject.answers c.args.extensions.now) c.args.depth (bare c.as_expr.result.now) (borrowed_tree c.args.body) (Err c.in_err-entities_of.field-0.0) by c.as_expr.ensures.tree
    (λ here. listed.refused (as_table g.F.ExtensionFunctionObject.answers c.args.extensions.now) c.args.depth (bare c.as_expr.result.now) (all_written c.in-Some.bodies) written bodies by here c.in_err-entities_of.field-0.0 made) serves)

pub returns-in-None-clause-listed : goal.returns-in-None-clause-listed
returns-in-None-clause-listed g c =
    let written = rw c.in-Some.is at c.in_ok-bodies.ensures.written in
    let bodies = rw c.in-Some.is at c.in_ok-bodies.ensures.bodies in
    let found = subst (λ (xs : List EntityBody). AreMade (as_table g.F.ExtensionFunctionObject.answers c.args.extensions.now) c.args.depth (map written_of xs) (Ok c.in_ok-entities_of.field-0)) c.deref.ensures.value c.in_ok-entities_of.ensures in
    let made = subst (λ (o : Option (Vec EntityData)). AreMade (as_table g.F.ExtensionFunctionObject.answers c.args.extensions.now) c.args.depth (all_written c.in-Some.bodies) (Ok o)) c.in-None.is found in
    λ by serves.
    listed.along (as_table g.F.ExtensionFunctionObject.answers c.args.extensions.now) c.args.depth (bare c.as_expr.result.now) (borrowed_tree c.args.body) (Err NotAValue) by c.as_expr.ensures.tree
    (λ here. listed.not_values (as_table g.F.ExtensionFunctionObject.answers c.args.extensions.now) c.args.depth (bare c.as_expr.result.now) (all_written c.in-Some.bodies) written bodies by here made) serves

pub returns-clause-listed : goal.returns-clause-listed
returns-clause-listed g c =
    let written = rw c.in-Some.is at c.in_ok-bodies.ensures.written in
    let bodies = rw c.in-Some.is at c.in_ok-bodies.ensures.bodies in
    let found = subst (λ (xs : List EntityBody). AreMade (as_table g.F.ExtensionFunctionObject.answers c.args.extensions.now) c.args.depth (map written_of xs) (Ok c.in_ok-entities_of.field-0)) c.deref.ensures.value c.in_ok-entities_of.ensures in
    let made = subst (λ (o : Option (Vec EntityData)). AreMade (as_table g.F.ExtensionFunctionObject.answers c.args.extensions.now) c.args.depth (all_written c.in-Some.bodies) (Ok o)) c.in-Some-2.is found in
    λ by serves.
    listed.along (as_table g.F.ExtensionFunctionObject.answers c.args.extensions.now) c.args.depth (bare c.as_expr.result.now) (borrowed_tree c.args.body) (Ok c.in-Some-2.entities) by c.as_expr.ensures.tree
    (λ here. listed.listed (as_table g.F.ExtensionFunctionObject.answers c.args.extensions.now) c.args.depth (bare c.as_expr.result.now) (all_written c.in-Some.bodies) written bodies by here c.in-Some-2.entities made) serves

pub returns-clause-versions : goal.returns-clause-versions
returns-clause-versions g c =
    let found = subst (λ (xs : List EntityBody). AreMade (as_table g.F.ExtensionFunctionObject.answers c.args.extensions.now) c.args.depth (map written_of xs) (Ok c.in_ok-entities_of.field-0)) c.deref.ensures.value c.in_ok-entities_of.ensures in
    let made = subst (λ (o : Option (Vec EntityData)). AreMade (as_table g.F.ExtensionFunctionObject.answers c.args.extensions.now) c.args.depth (all_written c.in-Some.bodies) (Ok o)) c.in-Some-2.is found in
    made.show_versions
