-- How a policy stands, by its scope and its clauses.
use Rattle.std.proofs.Common.{◌≡◌, Bool, true, false, Option, Some, None, sym, ◌∙◌, ap, subst}
use Rattle.std.specs.Prelude.{Result, IfSome}
use Rattle.either.specs.declared.Either.{Either}
use Rattle.either.specs.declared.Either.TheVariants.{Left}
use Rattle.cedar_language.specs.Facts.{Facts}
use Rattle.cedar_language.specs.Tree.{Boolean, Tree, Lit, And}
use Rattle.cedar_language.specs.Value.{Plain}
use Rattle.cedar_grammar.specs.Build.{conjunction}
use Rattle.cedar_grammar.specs.Policy as grammar
use Rattle.cedar_grammar.specs.Policy.{scope_tree, with_body, condition}
use Rattle.cedar_partial_evaluation.specs.Partial.{Answer, Evaluated, LeafAnswers, last_answer, partial_in}
use Rattle.cedar_policy_parts.specs.Bindings.{Bindings}
use Rattle.cedar_extensions.specs.Answering.{FunctionAnswers}
use Rattle.cedar_extensions.specs.declared.evaluation_error.EvaluationError.{EvaluationError}
use Rattle.cedar_interpreter.specs.Holding.{held_by, Serves}
use Rattle.cedar_interpreter.specs.declared.evaluator.Evaluator.{Evaluator}
use Rattle.cedar_interpreter.proofs.Serving.{serves_and_right}
use Rattle.cedar_trees.specs.declared.expr.Expr.{Expr}
use Rattle.cedar_evaluator.specs.Evaluating.{found_by, JudgesAt}
use Rattle.cedar_evaluator.specs.Evaluations.{Finds, found_read}
use Rattle.cedar_evaluator.specs.Scopes.{IsDecided}
use Rattle.cedar_evaluator.proofs.Scoped.{right_decides, both_decided}

-- ---- what the scope tells, and the clauses behind it

pub told_finds : (b : Answer) (s : Bool) → b ≡ Evaluated (Plain (Boolean s)) → Finds b (found_by (Left s))
told_finds b true h = h
told_finds b false h = h

pub told_finds_read : (b : Answer) (s : Bool) → b ≡ Evaluated (Plain (Boolean s)) → Finds b (found_read (found_by (Left s)))
told_finds_read b true h = h
told_finds_read b false h = h

module _ (facts : Facts) (holds : LeafAnswers) (s : grammar.Policy) where
  pub scope_decided : (o : Option Bool) (a b : Bool) → o ≡ Some a → a ≡ b → IsDecided facts holds (scope_tree s) o → partial_in facts holds (scope_tree s) ≡ Evaluated (Plain (Boolean b))
  scope_decided o a b is same decided = subst (λ (x : Bool). IsDecided facts holds (scope_tree s) (Some x)) same (subst (IsDecided facts holds (scope_tree s)) is decided)

  module _ (scope : partial_in facts holds (scope_tree s) ≡ Evaluated (Plain (Boolean true))) where
    pub told_by_scope : s.body ≡ None → partial_in facts holds (condition s) ≡ Evaluated (Plain (Boolean true))
    told_by_scope body = ap (λ (o : Option Tree). partial_in facts holds (with_body (scope_tree s) o)) body ∙ scope

    conjoined_told : (t : Tree) (o : Option Bool) → IfSome o (λ b. partial_in facts holds t ≡ Evaluated (Plain (Boolean b))) → IsDecided facts holds (conjunction (scope_tree s) t) o
    conjoined_told t None told = tt
    conjoined_told t (Some b) told = both_decided facts holds (scope_tree s) t (Some true) (Some b) scope told

    pub told_by_clauses : (t : Tree) → s.body ≡ Some t → (o : Option Bool) → IfSome o (λ b. partial_in facts holds t ≡ Evaluated (Plain (Boolean b))) → IsDecided facts holds (condition s) o
    told_by_clauses t body o told = subst (λ (c : Option Tree). IsDecided facts holds (with_body (scope_tree s) c) o) (sym body) (conjoined_told t o told)

-- ---- the clauses, from the condition

module _ {F : Type 0} (answers : F → FunctionAnswers) (ev : Evaluator F) where
  pub serves_right : (facts : Facts) (l r : Tree) → Serves answers ev facts (conjunction l r) → Serves answers ev facts r
  serves_right facts (Lit (Boolean a)) (Lit (Boolean b)) s = record { entities = s.entities; functions = s.functions; names_nothing = s.names_nothing }
  serves_right facts l r s = serves_and_right answers ev facts l r s

  module _ (s : grammar.Policy) (t : Tree) (body : s.body ≡ Some t) where
    pub clauses_served : (facts : Facts) → Serves answers ev facts (condition s) → Serves answers ev facts t
    clauses_served facts serves = serves_right facts (scope_tree s) t (subst (λ (o : Option Tree). Serves answers ev facts (with_body (scope_tree s) o)) body serves)

    pub clauses_found : (facts : Facts) (slots bs : Bindings) → slots ≡ bs → partial_in facts (held_by ev bs) (scope_tree s) ≡ Evaluated (Plain (Boolean true)) → (result : Result (Either Bool (Expr (Unit {0}))) EvaluationError) →
        JudgesAt (last_answer (And (Lit (Boolean true))) (partial_in facts (held_by ev slots) t)) result → JudgesAt (partial_in facts (held_by ev bs) (condition s)) result
    clauses_found facts slots bs same scope result judges =
        let holds = held_by ev bs in
        let is : partial_in facts holds (condition s) ≡ last_answer (And (Lit (Boolean true))) (partial_in facts holds t) = ap (λ (o : Option Tree). partial_in facts holds (with_body (scope_tree s) o)) body ∙ right_decides facts holds (scope_tree s) t scope in
        subst (λ (b : Answer). JudgesAt b result) (sym is)
        (subst (λ (b : Bindings). JudgesAt (last_answer (And (Lit (Boolean true))) (partial_in facts (held_by ev b) t)) result) same judges)
