-- The calls of an entity stand before those of the ones behind it.
use Rattle.std.proofs.Common.{rules, sym, ap, subst, Ok, Err}
use Rattle.std.specs.List.{list_all}
use Rattle.cedar_extensions.specs.Table.{as_table}
use Rattle.cedar_extensions.specs.Calls.{call_fits}
use Rattle.cedar_entity_evaluation.specs.Calls.{entity_calls, entities_calls}
use Rattle.cedar_entity_evaluation.specs.Validated.{ValidatesCalls}
use Rattle.cedar_entity_evaluation.proofs.Joined.{goes_on, stops}
use Rattle.cedar_entity_evaluation.proofs.validation.EntitiesEntitiesValidation.try_validate.Goals as goal

pub loop-entity-preserved : goal.loop-entity-preserved
loop-entity-preserved g c = λ r more.
    let table = as_table g.F.ExtensionFunctionObject.answers c.args.extensions.now in
    c.loop-entity.invariant r (subst (λ es. ValidatesCalls table (entities_calls es) r) (sym c.in-Some.ensures.steps)
    (goes_on table (entity_calls c.in-Some.entity.now) (entities_calls c.next.new.self) c.in_ok-try_validate.ensures r more))

pub returns-in_err-try_validate : goal.returns-in_err-try_validate
returns-in_err-try_validate g c =
    let table = as_table g.F.ExtensionFunctionObject.answers c.args.extensions.now in
    let e = c.in_err-try_validate.field-0.0 in
    let told = c.loop-entity.invariant (Err e) (subst (λ es. ValidatesCalls {A = Unit} table (entities_calls es) (Err e)) (sym c.in-Some.ensures.steps)
    (stops table (entity_calls c.in-Some.entity.now) (entities_calls c.next.new.self) e c.in_err-try_validate.ensures)) in
    search (rules, told)

pub returns : goal.returns
returns g c = c.loop-entity.invariant (Ok tt) (ap (λ es. list_all (call_fits (as_table g.F.ExtensionFunctionObject.answers c.args.extensions.now)) (entities_calls es)) c.in-None.ensures.steps.0)
