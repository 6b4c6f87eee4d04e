-- The calls of an attribute stand before those of the ones behind it.
use Rattle.std.proofs.Common.{rules, sym, ap, subst, Ok, Err}
use Rattle.std.specs.List.{list_all}
use Rattle.cedar_restricted.specs.PartialValues.{partial_of}
use Rattle.cedar_entities.specs.Attributes.{seen_entries}
use Rattle.cedar_extensions.specs.Table.{as_table}
use Rattle.cedar_extensions.specs.Calls.{call_fits}
use Rattle.cedar_entity_evaluation.specs.Calls.{calls_at, calls_among}
use Rattle.cedar_entity_evaluation.specs.Validated.{ValidatesCalls}
use Rattle.cedar_entity_evaluation.proofs.Joined.{goes_on, stops}
use Rattle.cedar_entity_evaluation.proofs.validated_attributes.validate_all.Goals as goal

pub loop-name-preserved : goal.loop-name-preserved
loop-name-preserved g c = λ r more.
    let table = as_table g.F.ExtensionFunctionObject.answers c.args.extensions.now in
    c.loop-name.invariant r (subst (λ es. ValidatesCalls table (calls_among (seen_entries es)) r) (sym c.in-Some.ensures.steps)
    (goes_on table (calls_at (partial_of c.in-Some.attribute.now)) (calls_among (seen_entries c.next.new.self)) c.in_ok-validate_attribute.ensures r more))

pub returns-in_err-validate_attribute : goal.returns-in_err-validate_attribute
returns-in_err-validate_attribute g c =
    let table = as_table g.F.ExtensionFunctionObject.answers c.args.extensions.now in
    let e = c.in_err-validate_attribute.field-0.0 in
    let told = c.loop-name.invariant (Err e) (subst (λ es. ValidatesCalls {A = Unit} table (calls_among (seen_entries es)) (Err e)) (sym c.in-Some.ensures.steps)
    (stops table (calls_at (partial_of c.in-Some.attribute.now)) (calls_among (seen_entries c.next.new.self)) e c.in_err-validate_attribute.ensures)) in
    search (rules, told)

pub returns : goal.returns
returns g c = c.loop-name.invariant (Ok tt) (ap (λ es. list_all (call_fits (as_table g.F.ExtensionFunctionObject.answers c.args.extensions.now)) (calls_among (seen_entries es))) c.in-None.ensures.steps.0)
