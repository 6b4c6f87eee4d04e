-- Conditions that are read: a scope calls nothing, and the clauses behind it are read.
use Rattle.std.proofs.Common.{◌≡◌, ◌∙◌, Bool, true, false, Option, Some, None, option_map, List, [], ◌∷◌, map, inl, inr, refl, sym, ap, subst}
use Rattle.std.specs.Prelude.{Result, Ok, Err, IfSome}
use Rattle.either.specs.declared.Either.{Either}
use Rattle.cedar_language.specs.Facts.{Facts}
use Rattle.cedar_language.specs.Uid.{Uid}
use Rattle.cedar_language.specs.Tree.{Boolean, Entity, Principal, Resource, PrincipalSlot, ResourceSlot, Variable, SlotId, Tree, Lit, And, Apply}
use Rattle.cedar_language.specs.Value.{Plain}
use Rattle.cedar_grammar.specs.Build.{trees, conjunction}
use Rattle.cedar_grammar.specs.Policy as grammar
use Rattle.cedar_grammar.specs.Policy.{Target, the_entity, the_slot, target_tree, Constraint, anything, equals, within, of_type, of_type_within, constraint_tree, ActionConstraint, any_action, action_equals, action_within_any, action_tree, scope_tree, with_body, condition}
use Rattle.cedar_partial_evaluation.specs.Early.{standing_of_answer}
use Rattle.cedar_partial_evaluation.specs.Partial.{Answer, Evaluated, ResidualTree, Failed, LeafAnswers, last_answer, partial_in}
use Rattle.cedar_partial_evaluation.specs.ReadUnknowns.{read_unknowns, all_read, calls_unknown, UnknownsAreRead}
use Rattle.cedar_policy_parts.specs.Bindings.{Bindings}
use Rattle.cedar_trees.specs.declared.expr.Expr.{Expr}
use Rattle.cedar_extensions.specs.Answering.{FunctionAnswers}
use Rattle.cedar_extensions.specs.Failures.{OfKind, LimitMet, MemoryRanOut, failure_of}
use Rattle.cedar_extensions.specs.Giving.{fails_on}
use Rattle.cedar_extensions.specs.Holding.{are_named}
use Rattle.cedar_extensions.specs.Tables.{functions_in}
use Rattle.cedar_extensions.specs.declared.evaluation_error.EvaluationError.{EvaluationError}
use Rattle.cedar_interpreter.specs.Holding.{held_by, ServesRead, is_naming}
use Rattle.cedar_interpreter.specs.Naming.{naming_in, as_read}
use Rattle.cedar_interpreter.specs.declared.evaluator.Evaluator.{Evaluator}
use Rattle.cedar_interpreter.proofs.NamingDepths.{IsAppliedRead, applied_read}
use Rattle.cedar_interpreter.proofs.Read.{read_answer}
use Rattle.cedar_evaluator.specs.Evaluating.{found_by, JudgesAt, JudgesReadAt}
use Rattle.cedar_evaluator.specs.Evaluations.{Found, Satisfied, Unsatisfied, Erred, Open, Finds, found_read}
use Rattle.cedar_evaluator.specs.Scopes.{IsDecided}
use Rattle.cedar_evaluator.proofs.Scoped.{right_decides, out_of_scope}
use Rattle.cedar_lemmas.proofs.Booleans.{or_second as last_none}

-- ---- a conjunction whose left operand is read already

behind_literal : (a : Bool) (r : Tree) → read_unknowns (conjunction (Lit (Boolean a)) r) ≡ conjunction (Lit (Boolean a)) (read_unknowns r)
behind_literal a (Apply op ts) = here (applied_read op (all_read ts))
  where
    here : IsAppliedRead op (all_read ts) → And (Lit (Boolean a)) (read_unknowns (Apply op ts)) ≡ conjunction (Lit (Boolean a)) (read_unknowns (Apply op ts))
    here (inl (f, n, is, o, r)) = rw r refl
    here (inr r) = rw r refl
behind_literal a (Lit (Boolean b)) = refl
behind_literal a (Lit l) = refl
behind_literal a r = refl

conjunction_read : (l r : Tree) → read_unknowns l ≡ l → read_unknowns (conjunction l r) ≡ conjunction l (read_unknowns r)
conjunction_read (Lit (Boolean a)) r h = behind_literal a r
conjunction_read l r h = ap (λ u. And u (read_unknowns r)) h

right_calls : (l r : Tree) → calls_unknown (conjunction l r) ≡ false → calls_unknown r ≡ false
right_calls (Lit (Boolean a)) (Lit (Boolean b)) h = refl
right_calls l r h = last_none (calls_unknown l) (calls_unknown r) h

-- ---- a scope

target_read : (s : SlotId) (t : Target) → read_unknowns (target_tree s t) ≡ target_tree s t
target_read s (the_entity u) = refl
target_read s the_slot = refl

constraint_read : (v : Variable) (s : SlotId) (c : Constraint) → read_unknowns (constraint_tree v s c) ≡ constraint_tree v s c
constraint_read v s anything = refl
constraint_read v s (equals (the_entity u)) = refl
constraint_read v s (equals the_slot) = refl
constraint_read v s (within (the_entity u)) = refl
constraint_read v s (within the_slot) = refl
constraint_read v s (of_type name) = refl
constraint_read v s (of_type_within name (the_entity u)) = refl
constraint_read v s (of_type_within name the_slot) = refl

uids_read : (us : List Uid) → all_read (trees (map (λ u. Lit (Entity u)) us)) ≡ trees (map (λ u. Lit (Entity u)) us)
uids_read [] = refl
uids_read (u ∷ us) = rw (uids_read us) refl

action_read : (c : ActionConstraint) → read_unknowns (action_tree c) ≡ action_tree c
action_read any_action = refl
action_read (action_equals u) = refl
action_read (action_within_any us) = rw (uids_read us) refl

both_read : (l r : Tree) → read_unknowns l ≡ l → read_unknowns r ≡ r → read_unknowns (conjunction l r) ≡ conjunction l r
both_read l r h k = conjunction_read l r h ∙ ap (conjunction l) k

module _ (s : grammar.Policy) where
  scope_read : read_unknowns (scope_tree s) ≡ scope_tree s
  scope_read =
      both_read (conjunction (constraint_tree Principal PrincipalSlot s.principal) (action_tree s.action)) (constraint_tree Resource ResourceSlot s.resource)
      (both_read (constraint_tree Principal PrincipalSlot s.principal) (action_tree s.action) (constraint_read Principal PrincipalSlot s.principal) (action_read s.action))
      (constraint_read Resource ResourceSlot s.resource)

  body_read : (o : Option Tree) → read_unknowns (with_body (scope_tree s) o) ≡ with_body (scope_tree s) (option_map read_unknowns o)
  body_read None = scope_read
  body_read (Some t) = conjunction_read (scope_tree s) t scope_read

  -- the clauses of a condition are read
  pub condition_read : read_unknowns (condition s) ≡ with_body (scope_tree s) (option_map read_unknowns s.body)
  condition_read = body_read s.body

  module _ (facts : Facts) (holds : LeafAnswers) where
    -- the answer to what is read, by that to the scope before the clauses as they are read
    answer_read : (b : Answer) → partial_in facts holds (with_body (scope_tree s) (option_map read_unknowns s.body)) ≡ b → partial_in facts holds (read_unknowns (condition s)) ≡ b
    answer_read b h = ap (partial_in facts holds) condition_read ∙ h

    pub out_of_scope_read : partial_in facts holds (scope_tree s) ≡ Evaluated (Plain (Boolean false)) → partial_in facts holds (read_unknowns (condition s)) ≡ Evaluated (Plain (Boolean false))
    out_of_scope_read h = answer_read _ (out_of_scope facts holds (scope_tree s) (option_map read_unknowns s.body) h)

    module _ (scope : partial_in facts holds (scope_tree s) ≡ Evaluated (Plain (Boolean true))) where
      pub told_by_scope_read : s.body ≡ None → partial_in facts holds (read_unknowns (condition s)) ≡ Evaluated (Plain (Boolean true))
      told_by_scope_read body = answer_read _ (ap (λ (o : Option Tree). partial_in facts holds (with_body (scope_tree s) (option_map read_unknowns o))) body ∙ scope)

      clauses_answer : (t : Tree) → s.body ≡ Some t → partial_in facts holds (read_unknowns (condition s)) ≡ last_answer (And (Lit (Boolean true))) (partial_in facts holds (read_unknowns t))
      clauses_answer t body =
          answer_read _ (ap (λ (o : Option Tree). partial_in facts holds (with_body (scope_tree s) (option_map read_unknowns o))) body ∙ right_decides facts holds (scope_tree s) (read_unknowns t) scope)

      pub told_by_clauses_read : (t : Tree) → s.body ≡ Some t → (o : Option Bool) → IfSome o (λ b. partial_in facts holds (read_unknowns t) ≡ Evaluated (Plain (Boolean b))) → IsDecided facts holds (read_unknowns (condition s)) o
      told_by_clauses_read t body None told = tt
      told_by_clauses_read t body (Some b) told = clauses_answer t body ∙ ap (last_answer (And (Lit (Boolean true)))) told

-- ---- what is found, and what is left of it read

standing_read : (a : Answer) → standing_of_answer (as_read a) ≡ standing_of_answer a
standing_read (Evaluated v) = refl
standing_read (ResidualTree r) = refl
standing_read (Failed k) = refl

finds_read : (a : Answer) (f : Found) → Finds a f → Finds (as_read a) (found_read f)
finds_read a Satisfied h = ap as_read h
finds_read a Unsatisfied h = ap as_read h
finds_read a (Erred (OfKind k)) h = standing_read a ∙ h
finds_read a (Erred LimitMet) h = tt
finds_read a (Erred MemoryRanOut) h = absurd h
finds_read a (Open r) h = ap as_read h

pub judges_read : (a b : Answer) (result : Result (Either Bool (Expr (Unit {0}))) EvaluationError) → b ≡ as_read a → JudgesAt a result → JudgesReadAt b result
judges_read a b (Ok e) is h = subst (λ x. Finds x (found_read (found_by e))) (sym is) (finds_read a (found_by e) h)
judges_read a b (Err e) is h = fails_on (failure_of e) (λ k f. ap standing_of_answer is ∙ standing_read a ∙ f) (λ d. d) h

last_read : (a : Answer) → last_answer (And (Lit (Boolean true))) (as_read a) ≡ as_read (last_answer (And (Lit (Boolean true))) a)
last_read (Evaluated (Plain (Boolean b))) = refl
last_read (Evaluated v) = refl
last_read (ResidualTree r) = refl
last_read (Failed k) = refl

-- ---- the clauses, from the condition

module _ {F : Type 0} (answers : F → FunctionAnswers) (ev : Evaluator F) (s : grammar.Policy) (t : Tree) (body : s.body ≡ Some t) where
  written_read : calls_unknown (read_unknowns (condition s)) ≡ false → calls_unknown (read_unknowns t) ≡ false
  written_read h =
      right_calls (scope_tree s) (read_unknowns t)
      (sym (ap calls_unknown (condition_read s ∙ ap (λ (o : Option Tree). with_body (scope_tree s) (option_map read_unknowns o)) body)) ∙ h)

  pub clauses_served_read : (facts : Facts) → ServesRead answers ev facts (condition s) → ServesRead answers ev facts t
  clauses_served_read facts serves = record { knows = serves.knows; naming = serves.naming; written = written_read serves.written; variables = serves.variables }

  module _ (unread : UnknownsAreRead) (named : are_named (functions_in ev.extensions.now) ≡ true) (facts : Facts) (slots bs : Bindings) (same : slots ≡ bs) (serves : ServesRead answers ev facts (condition s)) where
    clauses_read_as : partial_in facts (held_by ev slots) (read_unknowns t) ≡ as_read (naming_in (is_naming answers ev) facts (held_by ev slots) t)
    clauses_read_as = read_answer answers unread ev slots 0 t named facts (clauses_served_read facts serves)

    module _ (scope : partial_in facts (held_by ev bs) (scope_tree s) ≡ Evaluated (Plain (Boolean true))) where
      pub clauses_found_read : (result : Result (Either Bool (Expr (Unit {0}))) EvaluationError) →
          JudgesAt (last_answer (And (Lit (Boolean true))) (naming_in (is_naming answers ev) facts (held_by ev slots) t)) result → JudgesReadAt (partial_in facts (held_by ev bs) (read_unknowns (condition s))) result
      clauses_found_read result judges =
          let a = naming_in (is_naming answers ev) facts (held_by ev slots) t in
          judges_read (last_answer (And (Lit (Boolean true))) a) _ result
          (clauses_answer s facts (held_by ev bs) scope t body
          ∙ ap (λ (b : Bindings). last_answer (And (Lit (Boolean true))) (partial_in facts (held_by ev b) (read_unknowns t))) (sym same)
          ∙ ap (last_answer (And (Lit (Boolean true)))) clauses_read_as
          ∙ last_read a) judges

  -- what a glance tells of the clauses
  pub glanced_read : (unread : UnknownsAreRead) (named : are_named (functions_in ev.extensions.now) ≡ true) (facts : Facts) (bs : Bindings) → ServesRead answers ev facts (condition s) → (o : Option Bool) →
      IfSome o (λ b. naming_in (is_naming answers ev) facts (held_by ev bs) t ≡ Evaluated (Plain (Boolean b))) → IfSome o (λ b. partial_in facts (held_by ev bs) (read_unknowns t) ≡ Evaluated (Plain (Boolean b)))
  glanced_read unread named facts bs serves None told = tt
  glanced_read unread named facts bs serves (Some b) told = clauses_read_as unread named facts bs bs refl serves ∙ ap as_read told
