-- The calls of the attributes stand before those of the tags.
use Rattle.std.proofs.Common.{◌≡◌, true, rules, subst, Err}
use Rattle.std.specs.List.{list_all}
use Rattle.std.specs.FinMap as finite
use Rattle.cedar_extensions.specs.Table.{as_table}
use Rattle.cedar_extensions.specs.Calls.{call_fits}
use Rattle.cedar_entity_evaluation.specs.Calls.{calls_among}
use Rattle.cedar_entity_evaluation.specs.Validated.{ValidatesCalls}
use Rattle.cedar_entity_evaluation.proofs.Joined.{goes_on, stops}
use Rattle.cedar_entity_evaluation.proofs.validation.EntityEntityValidation.try_validate.Goals as goal

pub returns-in_err-validate_all : goal.returns-in_err-validate_all
returns-in_err-validate_all g c =
    let table = as_table g.F.ExtensionFunctionObject.answers c.args.extensions.now in
    let e = c.in_err-validate_all.field-0.0 in
    let told = stops table (calls_among (finite.entries c.args.self.now.attributes)) (calls_among (finite.entries c.args.self.now.tags)) e
    (subst (λ es. ValidatesCalls {A = Unit} table (calls_among es) (Err e)) c.attrs.ensures c.in_err-validate_all.ensures) in
    search (rules, told)

pub returns : goal.returns
returns g c =
    let table = as_table g.F.ExtensionFunctionObject.answers c.args.extensions.now in
    let fit = subst (λ es. list_all (call_fits table) (calls_among es) ≡ true) c.attrs.ensures c.in_ok-validate_all.ensures in
    goes_on table (calls_among (finite.entries c.args.self.now.attributes)) (calls_among (finite.entries c.args.self.now.tags)) fit c.validate_all-2.result
    (subst (λ es. ValidatesCalls table (calls_among es) c.validate_all-2.result) c.tags.ensures c.validate_all-2.ensures)
