-- The clauses decide behind a scope that holds.
use Rattle.std.proofs.Common.{◌≡◌, ◌<◌, ◌≤◌, arith, true, Some, None, option_map, ap, sym, subst, ◌∙◌}
use Rattle.std.specs.Option.{option_copied}
use Rattle.cedar_language.specs.Tree.{Boolean, Lit, And}
use Rattle.cedar_policy_parts.specs.Bindings.{Bindings}
use Rattle.cedar_policies.specs.Policies.{bindings_of, policy_syntax}
use Rattle.cedar_partial_evaluation.specs.Partial.{last_answer, partial_in}
use Rattle.cedar_partial_evaluation.specs.ReadUnknowns.{read_unknowns}
use Rattle.cedar_interpreter.specs.Depths.{evaluation_depth}
use Rattle.cedar_interpreter.specs.Holding.{held_by, is_naming, depth_of}
use Rattle.cedar_interpreter.specs.Naming.{naming_in, naming_depth}
use Rattle.cedar_trees.specs.Bare.{bare}
use Rattle.cedar_evaluator.proofs.Judged.{clauses_found, clauses_served}
use Rattle.cedar_evaluator.proofs.ReadConditions.{clauses_found_read, clauses_served_read, told_by_scope_read}
use Rattle.cedar_evaluator.proofs.ScopeDepths.{clauses_deep, clauses_nest, clauses_deep_read}
use Rattle.cedar_evaluator.proofs.judging.in_scope.Goals as goal

pub returns-in-Some-clause-found : goal.returns-in-Some-clause-found
returns-in-Some-clause-found g c = λ facts serves scope.
    let s = policy_syntax c.args.policy.now in
    let t = bare c.in-Some.clauses.now in
    let ev = c.args.evaluator.now in
    let body : s.body ≡ Some t = sym c.non_scope_constraints.ensures ∙ ap (λ o. option_map bare (option_copied o)) c.in-Some.is in
    let b = partial_in facts (held_by ev c.env.result.now) t in
    clauses_found g.F.ExtensionFunctionObject.answers ev s t body facts c.env.result.now (bindings_of c.args.policy.now) c.env.ensures.bindings scope c.judged.result
    (c.judged.ensures.found (last_answer (And (Lit (Boolean true))) b) (c.last_of_and.ensures.found b (c.partial_interpret-answer.ensures.found facts (clauses_served g.F.ExtensionFunctionObject.answers ev s t body facts serves))))

pub returns-in-Some-clause-limit : goal.returns-in-Some-clause-limit
returns-in-Some-clause-limit g c = λ met facts serves scope.
    let s = policy_syntax c.args.policy.now in
    let t = bare c.in-Some.clauses.now in
    let ev = c.args.evaluator.now in
    let bs = bindings_of c.args.policy.now in
    let body : s.body ≡ Some t = sym c.non_scope_constraints.ensures ∙ ap (λ o. option_map bare (option_copied o)) c.in-Some.is in
    let deep : depth_of ev < evaluation_depth facts (held_by ev bs) t =
    subst (λ (b : Bindings). depth_of ev < evaluation_depth facts (held_by ev b) t) c.env.ensures.bindings
    (c.partial_interpret-answer.ensures.limit (c.last_of_and.ensures.limit (c.judged.ensures.limit met)) facts (clauses_served g.F.ExtensionFunctionObject.answers ev s t body facts serves)) in
    omega (arith, deep, clauses_deep s t body facts (held_by ev bs) scope)

pub returns-in-Some-clause-named_limit : goal.returns-in-Some-clause-named_limit
returns-in-Some-clause-named_limit g c = λ met facts serves scope.
    let s = policy_syntax c.args.policy.now in
    let t = bare c.in-Some.clauses.now in
    let ev = c.args.evaluator.now in
    let bs = bindings_of c.args.policy.now in
    let body : s.body ≡ Some t = sym c.non_scope_constraints.ensures ∙ ap (λ o. option_map bare (option_copied o)) c.in-Some.is in
    let deep : depth_of ev < naming_depth (is_naming g.F.ExtensionFunctionObject.answers ev) facts (held_by ev bs) t =
    subst (λ (b : Bindings). depth_of ev < naming_depth (is_naming g.F.ExtensionFunctionObject.answers ev) facts (held_by ev b) t) c.env.ensures.bindings
    (c.partial_interpret-answer.ensures.named_limit (c.last_of_and.ensures.limit (c.judged.ensures.limit met)) facts serves) in
    omega (arith, deep, clauses_nest s t body facts (held_by ev bs) scope (is_naming g.F.ExtensionFunctionObject.answers ev))

pub returns-in-Some-clause-read : goal.returns-in-Some-clause-read
returns-in-Some-clause-read g c = λ facts serves scope.
    let s = policy_syntax c.args.policy.now in
    let t = bare c.in-Some.clauses.now in
    let ev = c.args.evaluator.now in
    let body : s.body ≡ Some t = sym c.non_scope_constraints.ensures ∙ ap (λ o. option_map bare (option_copied o)) c.in-Some.is in
    let a = naming_in (is_naming g.F.ExtensionFunctionObject.answers ev) facts (held_by ev c.env.result.now) t in
    clauses_found_read g.F.ExtensionFunctionObject.answers ev s t body c.unknowns_are_read.ensures ev.extensions.now.named facts c.env.result.now (bindings_of c.args.policy.now) c.env.ensures.bindings serves scope c.judged.result
    (c.judged.ensures.found (last_answer (And (Lit (Boolean true))) a) (c.last_of_and.ensures.found a (c.partial_interpret-answer.ensures.named facts serves.knows)))

pub returns-in-Some-clause-read_limit : goal.returns-in-Some-clause-read_limit
returns-in-Some-clause-read_limit g c = λ met facts serves scope.
    let s = policy_syntax c.args.policy.now in
    let t = bare c.in-Some.clauses.now in
    let ev = c.args.evaluator.now in
    let bs = bindings_of c.args.policy.now in
    let body : s.body ≡ Some t = sym c.non_scope_constraints.ensures ∙ ap (λ o. option_map bare (option_copied o)) c.in-Some.is in
    let deep : depth_of ev ≤ evaluation_depth facts (held_by ev bs) (read_unknowns t) =
    subst (λ (b : Bindings). depth_of ev ≤ evaluation_depth facts (held_by ev b) (read_unknowns t)) c.env.ensures.bindings
    (c.partial_interpret-answer.ensures.read_limit (c.last_of_and.ensures.limit (c.judged.ensures.limit met)) facts (clauses_served_read g.F.ExtensionFunctionObject.answers ev s t body facts serves)) in
    omega (arith, deep, clauses_deep_read s t body facts (held_by ev bs) scope)

-- without clauses

pub returns-in-None-clause-read : goal.returns-in-None-clause-read
returns-in-None-clause-read g c = λ facts serves scope.
    let s = policy_syntax c.args.policy.now in
    let body : s.body ≡ None = sym c.non_scope_constraints.ensures ∙ ap (λ o. option_map bare (option_copied o)) c.in-None.is in
    told_by_scope_read s facts (held_by c.args.evaluator.now (bindings_of c.args.policy.now)) scope body
