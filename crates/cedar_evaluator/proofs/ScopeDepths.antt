-- The condition of a policy whose scope holds nests as deep as its clauses.
use Rattle.std.proofs.Common.{◌≡◌, ◌≤◌, ◌∙◌, arith, Bool, true, false, Option, Some, option_map, List, [], ◌∷◌, map, refl, sym, ap, subst}
use Rattle.std.proofs.lemmas.Bool.{or_from}
use Rattle.cedar_language.specs.Uid.{Uid}
use Rattle.cedar_language.specs.Tree.{Boolean, Entity, Principal, Resource, PrincipalSlot, ResourceSlot, Variable, SlotId, Tree, Lit, And}
use Rattle.cedar_language.specs.Value.{Plain}
use Rattle.cedar_language.specs.Facts.{Facts}
use Rattle.cedar_grammar.specs.Build.{trees, conjunction}
use Rattle.cedar_grammar.specs.Policy as grammar
use Rattle.cedar_grammar.specs.Policy.{the_entity, the_slot, Constraint, anything, equals, within, of_type, of_type_within, constraint_tree, ActionConstraint, any_action, action_equals, action_within_any, action_tree, scope_tree, with_body, condition}
use Rattle.cedar_partial_evaluation.specs.Partial.{Evaluated, LeafAnswers, partial_in}
use Rattle.cedar_partial_evaluation.specs.ReadUnknowns.{read_unknowns, calls_unknown, some_calls_unknown}
use Rattle.cedar_interpreter.specs.Depths.{evaluation_depth}
use Rattle.cedar_interpreter.specs.Meeting.{tested_answer}
use Rattle.cedar_interpreter.specs.Naming.{naming_in, naming_depth}
use Rattle.cedar_interpreter.proofs.Branches.{branch_taken}
use Rattle.cedar_interpreter.proofs.Naming.{without}
use Rattle.cedar_evaluator.proofs.ReadConditions.{condition_read}
use Rattle.std.proofs.lemmas.Bool.{and_right as none_at}

-- ---- a conjunction whose left operand holds

module _ (facts : Facts) (holds : LeafAnswers) where
  right_deep : (l r : Tree) → partial_in facts holds l ≡ Evaluated (Plain (Boolean true)) → evaluation_depth facts holds r ≤ evaluation_depth facts holds (conjunction l r)
  right_deep (Lit (Boolean a)) (Lit (Boolean b)) h = omega arith
  right_deep l r h =
      let taken = branch_taken (partial_in facts holds l) (evaluation_depth facts holds r) 0 (ap tested_answer h) in
      let k : evaluation_depth facts holds r ≤ evaluation_depth facts holds (And l r) = omega (arith, taken) in
      k

  right_nests : (naming : Bool) (l r : Tree) → naming_in naming facts holds l ≡ Evaluated (Plain (Boolean true)) → naming_depth naming facts holds r ≤ naming_depth naming facts holds (conjunction l r)
  right_nests naming (Lit (Boolean a)) (Lit (Boolean b)) h = omega arith
  right_nests naming l r h =
      let taken = branch_taken (naming_in naming facts holds l) (naming_depth naming facts holds r) 0 (ap tested_answer h) in
      let k : naming_depth naming facts holds r ≤ naming_depth naming facts holds (And l r) = omega (arith, taken) in
      k

-- ---- a scope names no unknown

constraint_calls : (v : Variable) (s : SlotId) (c : Constraint) → calls_unknown (constraint_tree v s c) ≡ false
constraint_calls v s anything = refl
constraint_calls v s (equals (the_entity u)) = refl
constraint_calls v s (equals the_slot) = refl
constraint_calls v s (within (the_entity u)) = refl
constraint_calls v s (within the_slot) = refl
constraint_calls v s (of_type name) = refl
constraint_calls v s (of_type_within name (the_entity u)) = refl
constraint_calls v s (of_type_within name the_slot) = refl

uids_call : (us : List Uid) → some_calls_unknown (trees (map (λ u. Lit (Entity u)) us)) ≡ false
uids_call [] = refl
uids_call (u ∷ us) = uids_call us

action_calls : (c : ActionConstraint) → calls_unknown (action_tree c) ≡ false
action_calls any_action = refl
action_calls (action_equals u) = refl
action_calls (action_within_any us) = rw (uids_call us) refl

both_call : (l r : Tree) → calls_unknown l ≡ false → calls_unknown r ≡ false → calls_unknown (conjunction l r) ≡ false
both_call (Lit (Boolean a)) (Lit (Boolean b)) h k = refl
both_call l r h k = or_from (calls_unknown l) (calls_unknown r) h k

module _ (s : grammar.Policy) where
  scope_calls : calls_unknown (scope_tree s) ≡ false
  scope_calls =
      both_call (conjunction (constraint_tree Principal PrincipalSlot s.principal) (action_tree s.action)) (constraint_tree Resource ResourceSlot s.resource)
      (both_call (constraint_tree Principal PrincipalSlot s.principal) (action_tree s.action) (constraint_calls Principal PrincipalSlot s.principal) (action_calls s.action))
      (constraint_calls Resource ResourceSlot s.resource)

  scope_named : (naming : Bool) (facts : Facts) (holds : LeafAnswers) → naming_in naming facts holds (scope_tree s) ≡ partial_in facts holds (scope_tree s)
  scope_named naming facts holds = without naming facts holds (scope_tree s) (none_at naming (calls_unknown (scope_tree s)) scope_calls)

  -- ---- the clauses of a policy whose scope holds

  module _ (t : Tree) (body : s.body ≡ Some t) (facts : Facts) (holds : LeafAnswers) (scope : partial_in facts holds (scope_tree s) ≡ Evaluated (Plain (Boolean true))) where
    pub clauses_deep : evaluation_depth facts holds t ≤ evaluation_depth facts holds (condition s)
    clauses_deep =
        subst (λ (o : Option Tree). evaluation_depth facts holds t ≤ evaluation_depth facts holds (with_body (scope_tree s) o)) (sym body) (right_deep facts holds (scope_tree s) t scope)

    pub clauses_nest : (naming : Bool) → naming_depth naming facts holds t ≤ naming_depth naming facts holds (condition s)
    clauses_nest naming =
        subst (λ (o : Option Tree). naming_depth naming facts holds t ≤ naming_depth naming facts holds (with_body (scope_tree s) o)) (sym body)
        (right_nests facts holds naming (scope_tree s) t (scope_named naming facts holds ∙ scope))

    pub clauses_deep_read : evaluation_depth facts holds (read_unknowns t) ≤ evaluation_depth facts holds (read_unknowns (condition s))
    clauses_deep_read =
        subst (λ (u : Tree). evaluation_depth facts holds (read_unknowns t) ≤ evaluation_depth facts holds u) (sym (condition_read s ∙ ap (λ (o : Option Tree). with_body (scope_tree s) (option_map read_unknowns o)) body))
        (right_deep facts holds (scope_tree s) (read_unknowns t) scope)
