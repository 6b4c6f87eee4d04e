-- What is kept of a policy that was evaluated for a request.
use Rattle.std.proofs.Common.{◌≡◌, ℕ, Bool, true, false, refl, sym, ◌∙◌, ap, subst}
use Rattle.std.specs.Prelude.{Result, Ok}
use Rattle.either.specs.declared.Either.{Either}
use Rattle.either.specs.declared.Either.TheVariants.{Left}
use Rattle.cedar_language.specs.Facts.{Facts}
use Rattle.cedar_language.specs.Tree.{Boolean, Tree}
use Rattle.cedar_language.specs.Value.{Plain}
use Rattle.cedar_grammar.specs.Policy as grammar
use Rattle.cedar_partial_evaluation.specs.Partial.{Evaluated, LeafAnswers, partial_in}
use Rattle.cedar_partial_evaluation.specs.ReadUnknowns.{read_unknowns}
use Rattle.cedar_entities.specs.declared.store.Entities.{Entities}
use Rattle.cedar_extensions.specs.declared.evaluation_error.EvaluationError.{EvaluationError}
use Rattle.cedar_extensions.specs.Table.{Table}
use Rattle.cedar_evaluator.specs.Asking.{Inquiry, request_held}
use Rattle.cedar_interpreter.specs.Meeting.{IsLimit}
use Rattle.cedar_operators.specs.Store.{HasFacts}
use Rattle.cedar_policy_parts.specs.Bindings.{Bindings}
use Rattle.cedar_policies.specs.Policies.{policy_template, policy_syntax, link_of, bindings_of}
use Rattle.cedar_policies.specs.declared.policies.Policy.{Policy}
use Rattle.cedar_policy_set.specs.Bounds.{policy_entry, policy_seen}
use Rattle.cedar_policy_set.specs.Texts.{syntax_in}
use Rattle.cedar_policies.specs.Templates.{template_id}
use Rattle.cedar_trees.specs.declared.expr.Expr.{Expr}
use Rattle.cedar_evaluator.specs.Evaluating.{condition_of, JudgesAt, JudgesReadAt}
use Rattle.cedar_evaluator.specs.Evaluations.{Finds, found_read, bindings_in, condition_in, IsServed, IsServedRead, IsTooDeep, NestsTooDeep, IsTooDeepRead, policy_answer, read_answer, IsKept}
use Rattle.cedar_evaluator.specs.Grouping.{found_in, kept_of, IsKeepable}
use Rattle.cedar_evaluator.proofs.Answered.{finds, finds_read, limit_met}
use Rattle.cedar_evaluator.proofs.Entered.{syntax_entered, bindings_entered}
use Rattle.cedar_evaluator.proofs.Judged.{told_finds, told_finds_read}

module _
    (i : Inquiry) (store : Entities) (table : Table) (depth : ℕ)
    (p : Policy) (answer : Result (Either Bool (Expr (Unit {0}))) EvaluationError)
    (found : (facts : Facts) → IsServed i store table depth facts (condition_of p) → JudgesAt (partial_in facts (request_held i (bindings_of p)) (condition_of p)) answer)
    (limit : IsLimit answer → IsTooDeep i store table depth (bindings_of p) (condition_of p))
    (named_limit : IsLimit answer → NestsTooDeep i store table depth (bindings_of p) (condition_of p))
    (read : (facts : Facts) → IsServedRead i store table depth facts (condition_of p) → JudgesReadAt (partial_in facts (request_held i (bindings_of p)) (read_unknowns (condition_of p))) answer)
    (read_limit : IsLimit answer → IsTooDeepRead i store table depth (bindings_of p) (condition_of p))
    (keepable : IsKeepable answer) where
  syntax_is : syntax_in (policy_entry p) ≡ policy_syntax p
  syntax_is = syntax_entered (link_of p) (template_id (policy_template p)) (policy_syntax p) (bindings_of p)

  bindings_are : bindings_in (policy_entry p) ≡ bindings_of p
  bindings_are = bindings_entered (link_of p) (template_id (policy_template p)) (policy_syntax p) (bindings_of p) (λ none. (p.own none).1)

  condition_is : condition_in (policy_entry p) ≡ condition_of p
  condition_is = ap grammar.condition syntax_is

  held : request_held i (bindings_of p) ≡ request_held i (bindings_in (policy_entry p))
  held = ap (request_held i) (sym bindings_are)

  of_entry : (P : Bindings → Tree → Type 0) → P (bindings_of p) (condition_of p) → P (bindings_in (policy_entry p)) (condition_in (policy_entry p))
  of_entry P h = subst (λ (t : Tree). P (bindings_in (policy_entry p)) t) (sym condition_is) (subst (λ (b : Bindings). P b (condition_of p)) (sym bindings_are) h)

  answer_is : (facts : Facts) → partial_in facts (request_held i (bindings_of p)) (condition_of p) ≡ policy_answer i store table depth facts (policy_entry p)
  answer_is facts = ap (λ (holds : LeafAnswers). partial_in facts holds (condition_of p)) held ∙ ap (λ (t : Tree). partial_in facts (request_held i (bindings_in (policy_entry p))) t) (sym condition_is)

  read_is : (facts : Facts) → partial_in facts (request_held i (bindings_of p)) (read_unknowns (condition_of p)) ≡ read_answer i store table depth facts (policy_entry p)
  read_is facts =
      ap (λ (holds : LeafAnswers). partial_in facts holds (read_unknowns (condition_of p))) held
      ∙ ap (λ (t : Tree). partial_in facts (request_held i (bindings_in (policy_entry p))) (read_unknowns t)) (sym condition_is)

  pub is_kept : IsKept i store table depth (policy_seen p) (kept_of p answer)
  is_kept = record {
    id = refl;
    effect = ap (λ (s : grammar.Policy). s.effect) (sym syntax_is);
    annotations = ap (λ (s : grammar.Policy). s.annotations) (sym syntax_is);
    found = λ facts served. subst (λ b. Finds b (found_in answer)) (answer_is facts) (finds _ answer (found facts (subst (IsServed i store table depth facts) condition_is served)) keepable);
    limit = λ met. of_entry (IsTooDeep i store table depth) (limit (limit_met answer met));
    named_limit = λ met. of_entry (NestsTooDeep i store table depth) (named_limit (limit_met answer met));
    read = λ facts served. subst (λ b. Finds b (found_read (found_in answer))) (read_is facts) (finds_read _ answer (read facts (subst (IsServedRead i store table depth facts) condition_is served)) keepable);
    read_limit = λ met. of_entry (IsTooDeepRead i store table depth) (read_limit (limit_met answer met));
  }

-- ---- of a policy of which it is told whether it is satisfied

told_keepable : (s : Bool) → IsKeepable (Ok (Left s))
told_keepable true h = cc
told_keepable false h = cc

pub is_kept_told : (i : Inquiry) (store : Entities) (table : Table) (depth : ℕ) (p : Policy) (b s : Bool) → b ≡ s
    → ((facts : Facts) → HasFacts store facts → partial_in facts (request_held i (bindings_of p)) (condition_of p) ≡ Evaluated (Plain (Boolean b)))
    → ((facts : Facts) → IsServedRead i store table depth facts (condition_of p) → partial_in facts (request_held i (bindings_of p)) (read_unknowns (condition_of p)) ≡ Evaluated (Plain (Boolean b)))
    → IsKept i store table depth (policy_seen p) (kept_of p (Ok (Left s)))
is_kept_told i store table depth p b s same told read =
    is_kept i store table depth p (Ok (Left s))
    (λ facts served. told_finds _ s (told facts served.entities ∙ ap (λ x. Evaluated (Plain (Boolean x))) same))
    (λ met. absurd met)
    (λ met. absurd met)
    (λ facts served. told_finds_read _ s (read facts served ∙ ap (λ x. Evaluated (Plain (Boolean x))) same))
    (λ met. absurd met) (told_keepable s)
