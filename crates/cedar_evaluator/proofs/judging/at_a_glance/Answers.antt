-- A scope that doesn't hold decides; behind one that holds the clauses do, and nothing where there are none.
use Rattle.std.proofs.Common.{◌≡◌, Some, None, option_map, ap, sym, subst, ◌∙◌}
use Rattle.std.specs.Prelude.{IfSome}
use Rattle.std.specs.Option.{option_copied}
use Rattle.cedar_language.specs.Tree.{Boolean}
use Rattle.cedar_language.specs.Value.{Plain}
use Rattle.cedar_grammar.specs.Policy.{scope_tree}
use Rattle.cedar_partial_evaluation.specs.Partial.{Evaluated, LeafAnswers, partial_in}
use Rattle.cedar_partial_evaluation.specs.ReadUnknowns.{read_unknowns}
use Rattle.cedar_entities.specs.declared.store.Entities.{Entities}
use Rattle.cedar_operators.specs.Store.{HasFacts}
use Rattle.cedar_evaluator.specs.Asking.{request_held}
use Rattle.cedar_interpreter.specs.Holding.{is_naming}
use Rattle.cedar_policies.specs.Policies.{bindings_of, policy_syntax}
use Rattle.cedar_trees.specs.Bare.{bare}
use Rattle.cedar_evaluator.specs.Evaluating.{condition_of}
use Rattle.cedar_evaluator.specs.Scopes.{IsDecided}
use Rattle.cedar_evaluator.proofs.Asked.{asked_plain}
use Rattle.cedar_evaluator.proofs.Judged.{scope_decided, told_by_scope, told_by_clauses}
use Rattle.cedar_evaluator.proofs.ReadConditions.{out_of_scope_read, told_by_scope_read, told_by_clauses_read, glanced_read}
use Rattle.cedar_evaluator.proofs.Scoped.{out_of_scope}
use Rattle.cedar_evaluator.proofs.judging.at_a_glance.Goals as goal

pub returns-in-Some-false-clause-found : goal.returns-in-Some-false-clause-found
returns-in-Some-false-clause-found g c = λ i store table depth is scopes facts has.
    let s = policy_syntax c.args.policy.now in
    let holds = request_held i (bindings_of c.args.policy.now) in
    out_of_scope facts holds (scope_tree s) s.body
    (scope_decided facts holds s c.hold.result _ _ c.in-Some-false.is c.in-Some-false.field-0-test (c.hold.ensures i store facts scopes has))

pub returns-in-None-non_scope_constraints-clause-found : goal.returns-in-None-non_scope_constraints-clause-found
returns-in-None-non_scope_constraints-clause-found g c = λ i store table depth is scopes facts has.
    let s = policy_syntax c.args.policy.now in
    let holds = request_held i (bindings_of c.args.policy.now) in
    let body : s.body ≡ None = sym c.non_scope_constraints.ensures ∙ ap (λ o. option_map bare (option_copied o)) c.in-None-non_scope_constraints.is in
    told_by_scope facts holds s
    (scope_decided facts holds s c.hold.result _ _ c.in-Some-true.is c.in-Some-true.field-0-test (c.hold.ensures i store facts scopes has)) body

pub returns-in-Some-glance-clause-found : goal.returns-in-Some-glance-clause-found
returns-in-Some-glance-clause-found g c = λ i store table depth is scopes facts has.
    let s = policy_syntax c.args.policy.now in
    let t = bare c.in-Some.clauses.now in
    let bs = bindings_of c.args.policy.now in
    let holds = request_held i bs in
    let body : s.body ≡ Some t = sym c.non_scope_constraints.ensures ∙ ap (λ o. option_map bare (option_copied o)) c.in-Some.is in
    let scope = scope_decided facts holds s c.hold.result _ _ c.in-Some-true.is c.in-Some-true.field-0-test (c.hold.ensures i store facts scopes has) in
    subst (IsDecided facts holds (condition_of c.args.policy.now)) c.in-Some-glance.is
    (told_by_clauses facts holds s scope t body c.glance.result
    (subst (λ (h : LeafAnswers). IfSome c.glance.result (λ b. partial_in facts h t ≡ Evaluated (Plain (Boolean b)))) (is.holds bs)
    (c.glance.ensures.told facts bs (subst (λ (held : Entities). HasFacts held facts) (sym is.store) has))))

-- ---- the same of what is read

pub returns-in-Some-false-clause-read : goal.returns-in-Some-false-clause-read
returns-in-Some-false-clause-read g c = λ i store table depth is scopes facts served.
    let s = policy_syntax c.args.policy.now in
    let holds = request_held i (bindings_of c.args.policy.now) in
    out_of_scope_read s facts holds
    (scope_decided facts holds s c.hold.result _ _ c.in-Some-false.is c.in-Some-false.field-0-test (c.hold.ensures i store facts scopes served.entities))

pub returns-in-None-non_scope_constraints-clause-read : goal.returns-in-None-non_scope_constraints-clause-read
returns-in-None-non_scope_constraints-clause-read g c = λ i store table depth is scopes facts served.
    let s = policy_syntax c.args.policy.now in
    let holds = request_held i (bindings_of c.args.policy.now) in
    let body : s.body ≡ None = sym c.non_scope_constraints.ensures ∙ ap (λ o. option_map bare (option_copied o)) c.in-None-non_scope_constraints.is in
    let told = c.hold.ensures i store facts scopes served.entities in
    told_by_scope_read s facts holds (scope_decided facts holds s c.hold.result _ _ c.in-Some-true.is c.in-Some-true.field-0-test told) body

pub returns-in-Some-glance-clause-read : goal.returns-in-Some-glance-clause-read
returns-in-Some-glance-clause-read g c = λ i store table depth is scopes facts served.
    let s = policy_syntax c.args.policy.now in
    let t = bare c.in-Some.clauses.now in
    let ev = c.args.evaluator.now in
    let bs = bindings_of c.args.policy.now in
    let holds = request_held i bs in
    let body : s.body ≡ Some t = sym c.non_scope_constraints.ensures ∙ ap (λ o. option_map bare (option_copied o)) c.in-Some.is in
    let told = c.hold.ensures i store facts scopes served.entities in
    let scope = scope_decided facts holds s c.hold.result _ _ c.in-Some-true.is c.in-Some-true.field-0-test told in
    let plain = asked_plain i.request served.context in
    let serves = is.reads facts (condition_of c.args.policy.now) served.entities served.functions served.naming served.written plain in
    subst (IsDecided facts holds (read_unknowns (condition_of c.args.policy.now))) c.in-Some-glance.is
    (told_by_clauses_read s facts holds scope t body c.glance.result
    (subst (λ (h : LeafAnswers). IfSome c.glance.result (λ b. partial_in facts h (read_unknowns t) ≡ Evaluated (Plain (Boolean b)))) (is.holds bs)
    (glanced_read g.F.ExtensionFunctionObject.answers ev s t body c.unknowns_are_read.ensures ev.extensions.now.named facts bs serves c.glance.result
    (c.glance.ensures.named (is_naming g.F.ExtensionFunctionObject.answers ev) facts bs serves.knows.entities))))
