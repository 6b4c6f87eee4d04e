-- What is kept of one more policy that is evaluated.
use Rattle.std.proofs.Common.{ap, subst, ◌∙◌}
use Rattle.std.specs.Prelude.{⊤}
use Rattle.cedar_grammar.specs.Policy.{scope_tree}
use Rattle.cedar_partial_evaluation.specs.Partial.{LeafAnswers, partial_in}
use Rattle.cedar_policies.specs.Policies.{bindings_of, policy_syntax}
use Rattle.cedar_evaluator.specs.Evaluating.{IsInScope}
use Rattle.cedar_evaluator.specs.Grouping.{found_in, IsToldBy}
use Rattle.cedar_evaluator.proofs.Keeping.{keeps_more}
use Rattle.cedar_evaluator.proofs.KeptBy.{is_kept_by}
use Rattle.cedar_evaluator.proofs.Responding.{on_ok}
use Rattle.cedar_evaluator.proofs.partial_response.PartialResponse.evaluate_in_full.Goals as goal

pub returns-in-InScope-clause-keeps : goal.returns-in-InScope-clause-keeps
returns-in-InScope-clause-keeps g c = λ scopes said.
    let answers = g.F.ExtensionFunctionObject.answers in
    let ev = c.args.evaluator.now in
    let p = c.args.policy.now in
    let answer = c.in_scope-answer.result in
    let given = c.in_scope-answer.ensures in
    let holds = subst (IsToldBy answers ev scopes p) c.in-InScope.is said in
    on_ok c.keep.result
    (λ held keepable es keeps.
    keeps_more answers c.args.with_false ev scopes es c.args.self.now c.keep.new.self p (found_in answer) keeps held
    (λ i store table depth is by.
    is_kept_by answers ev p answer (λ facts. IsInScope ev facts p)
    given.found given.limit given.named_limit given.read given.read_limit keepable i store table depth is
    (λ facts has.
    ap (λ (h : LeafAnswers). partial_in facts h (scope_tree (policy_syntax p))) (is.holds (bindings_of p))
    ∙ holds i store table depth is by facts has)))
    c.keep.ensures.held c.keep.ensures.keepable

pub returns-in-Unsaid-clause-keeps : goal.returns-in-Unsaid-clause-keeps
returns-in-Unsaid-clause-keeps g c = λ scopes said.
    let answers = g.F.ExtensionFunctionObject.answers in
    let ev = c.args.evaluator.now in
    let p = c.args.policy.now in
    let answer = c.partial_evaluate-answer.result in
    let given = c.partial_evaluate-answer.ensures in
    on_ok c.keep-in-Unsaid.result
    (λ held keepable es keeps.
    keeps_more answers c.args.with_false ev scopes es c.args.self.now c.keep-in-Unsaid.new.self p (found_in answer) keeps held
    (λ i store table depth is by.
    is_kept_by answers ev p answer (λ facts. ⊤)
    (λ facts serves any. given.found facts serves) (λ met facts serves any. given.limit met facts serves)
    (λ met facts knows any. given.named_limit met facts knows)
    (λ facts serves any. given.read facts serves) (λ met facts serves any. given.read_limit met facts serves)
    keepable i store table depth is (λ facts has. tt)))
    c.keep-in-Unsaid.ensures.held c.keep-in-Unsaid.ensures.keepable
