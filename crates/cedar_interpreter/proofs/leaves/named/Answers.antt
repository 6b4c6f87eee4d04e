-- A value that a call gives, the unknown that it names, or its error.
use Rattle.std.proofs.Common.{◌∙◌, ap, sym, subst, None}
use Rattle.std.specs.Prelude.{option_map}
use Rattle.std.specs.Option.{option_copied}
use Rattle.cedar_language.specs.Tree.{Unknown}
use Rattle.cedar_partial_evaluation.specs.Question.{name_held}
use Rattle.cedar_trees.specs.Bare.{bare}
use Rattle.cedar_trees.specs.Unknowns.{unknown_name, unknown_type}
use Rattle.cedar_extensions.specs.Failures.{failure_of}
use Rattle.cedar_restricted.specs.PartialValues.{partial_of}
use Rattle.cedar_restricted.specs.declared.partial_values.PartialValue.{PartialValue}
use Rattle.cedar_restricted_evaluation.specs.Findings.{IsCalledBy, Calls}
use Rattle.cedar_interpreter.specs.Holding.{value_told}
use Rattle.cedar_interpreter.specs.Meeting.{MeetsAt}
use Rattle.cedar_interpreter.proofs.Called.{value_answered, unknown_answered, no_unknown, failed_answered}
use Rattle.cedar_interpreter.proofs.leaves.named.Goals as goal

pub returns-in-Ok-Value : goal.returns-in-Ok-Value
returns-in-Ok-Value c = λ table f vs calls.
    value_answered (table.function f) table.has_unknown (λ n. name_held (value_told c.args.told n) n None) f vs c.in-Ok-Value.value
    (subst (λ (p : PartialValue). IsCalledBy (table.function f) table.has_unknown f vs (partial_of p)) c.in-Ok-Value.field-0-is (subst (Calls table f vs) c.in-Ok-Value.is calls))

pub returns-in-Some : goal.returns-in-Some
returns-in-Some c = λ table f vs calls.
    let name = c.in-Some.name.now in
    let given = subst (λ (p : PartialValue). IsCalledBy (table.function f) table.has_unknown f vs (partial_of p)) c.in-Ok-Residual.field-0-is (subst (Calls table f vs) c.in-Ok-Residual.is calls) in
    let there = sym (ap (λ o. option_map (λ u. Unknown (unknown_name u) (unknown_type u)) (option_copied o)) c.in-Some.is) ∙ c.unknown_in.ensures in
    subst (λ b. MeetsAt ⊥ b c.unknown.result)
    (sym (unknown_answered (table.function f) table.has_unknown (value_told c.args.told) f vs (bare c.in-Ok-Residual.rest) given (unknown_name name) (unknown_type name) there)) c.unknown.ensures

pub returns-in-None : goal.returns-in-None
returns-in-None c = λ table f vs calls.
    let given = subst (λ (p : PartialValue). IsCalledBy (table.function f) table.has_unknown f vs (partial_of p)) c.in-Ok-Residual.field-0-is (subst (Calls table f vs) c.in-Ok-Residual.is calls) in
    let none = sym (ap (λ o. option_map (λ u. Unknown (unknown_name u) (unknown_type u)) (option_copied o)) c.in-None.is) ∙ c.unknown_in.ensures in
    absurd (no_unknown (table.function f) table.has_unknown (value_told c.args.told) f vs (bare c.in-Ok-Residual.rest) given none)

pub returns-in-Err : goal.returns-in-Err
returns-in-Err c = λ table f vs calls.
    failed_answered (table.function f) table.has_unknown (λ n. name_held (value_told c.args.told n) n None) f vs (failure_of c.in-Err.error) (subst (Calls table f vs) c.in-Err.is calls)
