-- Of a scope whose slots are bound, no part errs while nothing is told, and none is left with a slot; so a condition is left with one
-- only where its clauses hold one.
use Rattle.std.proofs.Common.{◌≡◌, Bool, true, false, Option, Some, None, List, [], map, refl, sym, ap, subst}
use Rattle.std.proofs.lemmas.Bool.{and_from}
use Rattle.std.specs.FinMap as finite
use Rattle.cedar_language.specs.Uid.{Text, Name, Uid}
use Rattle.cedar_language.specs.Tree.{Boolean, Entity, Operator, Equal, In, Is, MakeSet, Variable, Principal, Action, Resource, SlotId, PrincipalSlot, ResourceSlot, Tree, And, Lit, Var, Unknown, Apply, no_trees, a_tree}
use Rattle.cedar_language.specs.Value.{Value, Plain, SetOf, no_values, a_value}
use Rattle.cedar_language.specs.Order.{rising}
use Rattle.cedar_language.specs.Facts.{Facts}
use Rattle.cedar_language.specs.Meaning.{slot_outcome}
use Rattle.cedar_language.specs.Slots.{Slots}
use Rattle.cedar_language.specs.Operators.{within_members}
use Rattle.cedar_partial_evaluation.specs.MadeAgain.{tree_of}
use Rattle.cedar_partial_evaluation.specs.Partial.{Answer, Evaluated, ResidualTree, Failed, Answers, AllEvaluated, answer_of, best_effort, last_answer, and_answer, and_next, equal_answer, stated_type, types_differ, LeafAnswers, apply_answer, partial_in}
use Rattle.cedar_partial_evaluation.specs.Question.{Part, Given, Missing, Question, entity_type, part_held, held_of}
use Rattle.cedar_grammar.specs.Build.{trees, unary, binary, conjunction}
use Rattle.cedar_grammar.specs.Policy.{Policy, Target, the_entity, the_slot, Constraint, anything, equals, within, of_type, of_type_within, ActionConstraint, any_action, action_equals, action_within_any, target_tree, target_slots, constraint_tree, constraint_slots, action_tree, scope_tree, with_body, condition, bound_target, bound_constraint}
use Rattle.cedar_world.specs.Orders.{text_cmp}
use Rattle.cedar_partial_evaluation.proofs.Scopes.{conjoined, entities, all_listed, rising_uids}
use Rattle.cedar_world.specs.Lookups.{calls_among}
use Rattle.cedar_world.proofs.CallsLeft.{AnyKind, Keeps, IsKept, value_passes, and_kept}

-- ---- scopes whose slots are bound

module _ (passes : Name → Bool) where
  -- a truth value, or a residual without slots
  abbrev pub IsTested : Answer → Type 0
  IsTested (Evaluated (Plain (Boolean b))) = Unit {0}
  IsTested (ResidualTree t) = calls_among false passes t ≡ true
  IsTested _ = ⊥

  module _ (facts : Facts) where
    last_tested : (q : Answer) → IsTested q → IsTested (last_answer (And (Lit (Boolean true))) q)
    last_tested (Evaluated (Plain (Boolean b))) h = tt
    last_tested (Evaluated _) h = absurd h
    last_tested _ h = h

    best_tested : (q : Answer) (r : Tree) → IsTested q → calls_among false passes (best_effort facts q r) ≡ true
    best_tested (Evaluated (Plain (Boolean b))) r h = refl
    best_tested (ResidualTree t) r h = h
    best_tested _ r h = absurd h

    and_tested : (p q : Answer) (r : Tree) → IsTested p → IsTested q → IsTested (and_answer facts p q r)
    and_tested (Evaluated (Plain (Boolean true))) q r h k = last_tested q k
    and_tested (Evaluated (Plain (Boolean false))) q r h k = tt
    and_tested (Evaluated _) q r h k = absurd h
    and_tested (ResidualTree t) q r h k = and_from (calls_among false passes t) (calls_among false passes (best_effort facts q r)) h (best_tested q r k)
    and_tested (Failed e) q r h k = h

    module _ (holds : LeafAnswers) where
      abbrev Tests : Tree → Type 0
      Tests t = IsTested (partial_in facts holds t)

      both_test : (l r : Tree) → Tests l → Tests r → Tests (conjunction l r)
      both_test l r h k = subst IsTested (sym (conjoined facts holds l r)) (and_tested (partial_in facts holds l) (partial_in facts holds r) r h k)

      equal_test : (b : Bool) (r s : Tree) → calls_among false passes (Apply Equal (a_tree r (a_tree s no_trees))) ≡ true → IsTested (equal_answer b r s)
      equal_test true r s h = tt
      equal_test false r s h = h

      -- ---- a variable that is given or missing, where nothing is told

      module _ (v : Variable) (part : Part) (n : Text) (held : holds.variable v ≡ part_held part None n) where
        abbrev beside : Operator → Value → Answer
        beside op w = apply_answer facts holds op (and_next facts (part_held part None n) (and_next facts (Evaluated w) (AllEvaluated no_values)))

        compared : (op : Operator) (t : Tree) (w : Value) → partial_in facts holds t ≡ Evaluated w → IsTested (beside op w) → Tests (binary op (Var v) t)
        compared op t w e h = rw (held, e) h

        type_tests : (name : Name) → Tests (unary (Is name) (Var v))
        type_tests name = rw held (by_part part)
          where
            by_part : (p : Part) → IsTested (apply_answer facts holds (Is name) (and_next facts (part_held p None n) (AllEvaluated no_values)))
            by_part (Given u) = tt
            by_part (Missing (Some ty)) = tt
            by_part (Missing None) = refl

        equal_tests : (w : Uid) → IsTested (beside Equal (Plain (Entity w)))
        equal_tests w = by_part part
          where
            by_part : (p : Part) → IsTested (apply_answer facts holds Equal (and_next facts (part_held p None n) (AllEvaluated (a_value (Plain (Entity w)) no_values))))
            by_part (Given u) = tt
            by_part (Missing ty) = equal_test (types_differ (stated_type (Unknown n (entity_type ty))) (Some w.type_name)) (Unknown n (entity_type ty)) (Lit (Entity w)) refl

        within_tests : (w : Uid) → IsTested (beside In (Plain (Entity w)))
        within_tests w = by_part part
          where
            by_part : (p : Part) → IsTested (apply_answer facts holds In (and_next facts (part_held p None n) (AllEvaluated (a_value (Plain (Entity w)) no_values))))
            by_part (Given u) = tt
            by_part (Missing ty) = refl

        -- ---- a constraint, whose slot is bound

        module _ (slot : SlotId) (bound : Option Uid) (binds : holds.slot slot ≡ answer_of (slot_outcome bound)) where
          target_held : (t : Target) → target_slots slot (bound_target bound t) ≡ [] → (w : Uid) × (partial_in facts holds (target_tree slot t) ≡ Evaluated (Plain (Entity w)))
          target_held (the_entity w) e = (w, refl)
          target_held the_slot e = by_bound bound binds e
            where
              by_bound : (o : Option Uid) → holds.slot slot ≡ answer_of (slot_outcome o) → target_slots slot (bound_target o the_slot) ≡ [] → (w : Uid) × (holds.slot slot ≡ Evaluated (Plain (Entity w)))
              by_bound (Some w) h k = (w, h)
              by_bound None h k = absurd (cc k)

          within_target : (t : Target) → target_slots slot (bound_target bound t) ≡ [] → Tests (binary In (Var v) (target_tree slot t))
          within_target t e = let (w, is) = target_held t e in compared In (target_tree slot t) (Plain (Entity w)) is (within_tests w)

          pub constraint_tests : (c : Constraint) → constraint_slots slot (bound_constraint bound c) ≡ [] → Tests (constraint_tree v slot c)
          constraint_tests anything e = tt
          constraint_tests (equals t) e = let (w, is) = target_held t e in compared Equal (target_tree slot t) (Plain (Entity w)) is (equal_tests w)
          constraint_tests (within t) e = within_target t e
          constraint_tests (of_type name) e = type_tests name
          constraint_tests (of_type_within name t) e = both_test (unary (Is name) (Var v)) (binary In (Var v) (target_tree slot t)) (type_tests name) (within_target t e)

      -- ---- the action

      module _ (part : Part) (n : Text) (held : holds.variable Action ≡ part_held part None n) (keeps : Keeps false passes AnyKind facts) (us : List Uid) where
        abbrev set : Value
        set = SetOf (rising (entities us))

        among_tests : (p : Part) → IsTested (apply_answer facts holds In (and_next facts (part_held p None n) (AllEvaluated (a_value set no_values))))
        among_tests (Given u) = let found = rising_uids facts us in subst (λ o. IsTested (answer_of (within_members facts u o))) (sym found.uids_are) tt
        among_tests (Missing ty) = and_from (calls_among false passes (tree_of facts set)) true (value_passes false passes AnyKind facts keeps set) refl

        within_any_tests : Tests (action_tree (action_within_any us))
        within_any_tests =
            let listed = Apply MakeSet (trees (map (λ w. Lit (Entity w)) us)) in
            let made : partial_in facts holds listed ≡ Evaluated set = ap (λ (ps : Answers). apply_answer facts holds MakeSet ps) (all_listed facts holds us) in
            compared Action part n held In listed set made (among_tests part)

      action_tests : (part : Part) (n : Text) → holds.variable Action ≡ part_held part None n → Keeps false passes AnyKind facts → (c : ActionConstraint) → Tests (action_tree c)
      action_tests part n held keeps any_action = tt
      action_tests part n held keeps (action_equals w) = compared Action part n held Equal (Lit (Entity w)) (Plain (Entity w)) refl (equal_tests Action part n held w)
      action_tests part n held keeps (action_within_any us) = within_any_tests part n held keeps us

    -- ---- the scope

    module _ (keeps : Keeps false passes AnyKind facts) (q : Question) (b : Slots) where
      abbrev holds : LeafAnswers
      holds = held_of facts q b finite.empty

      untold : (part : Part) (n : Text) → part_held part (finite.get {R = text_cmp} finite.empty n) n ≡ part_held part None n
      untold part n = ap (λ (o : Option Value). part_held part o n) (finite.get-empty text_cmp n)

      scope_tests : (p : Policy) → constraint_slots PrincipalSlot (bound_constraint (b PrincipalSlot) p.principal) ≡ [] → constraint_slots ResourceSlot (bound_constraint (b ResourceSlot) p.resource) ≡ []
          → IsTested (partial_in facts holds (scope_tree p))
      scope_tests p e f =
          let principal = constraint_tree Principal PrincipalSlot p.principal in
          let resource = constraint_tree Resource ResourceSlot p.resource in
          both_test holds (conjunction principal (action_tree p.action)) resource
          (both_test holds principal (action_tree p.action) (constraint_tests holds Principal q.principal _ (untold q.principal _) PrincipalSlot (b PrincipalSlot) refl p.principal e)
          (action_tests holds q.action _ (untold q.action _) keeps p.action))
          (constraint_tests holds Resource q.resource _ (untold q.resource _) ResourceSlot (b ResourceSlot) refl p.resource f)

      -- with clauses in which no slot stands
      pub condition_kept : (p : Policy) → constraint_slots PrincipalSlot (bound_constraint (b PrincipalSlot) p.principal) ≡ [] → constraint_slots ResourceSlot (bound_constraint (b ResourceSlot) p.resource) ≡ []
          → ((c : Tree) → p.body ≡ Some c → (calls_among false passes c ≡ true) × IsKept false passes AnyKind (partial_in facts holds c))
          → IsKept false passes AnyKind (partial_in facts holds (condition p))
      condition_kept p e f clauses = with_clauses p.body clauses
        where
          tested_kept : (a : Answer) → IsTested a → IsKept false passes AnyKind a
          tested_kept (Evaluated v) h = tt
          tested_kept (ResidualTree t) h = h
          tested_kept (Failed k) h = tt

          scope : IsKept false passes AnyKind (partial_in facts holds (scope_tree p))
          scope = tested_kept (partial_in facts holds (scope_tree p)) (scope_tests p e f)

          with_clauses : (o : Option Tree) → ((c : Tree) → o ≡ Some c → (calls_among false passes c ≡ true) × IsKept false passes AnyKind (partial_in facts holds c))
              → IsKept false passes AnyKind (partial_in facts holds (with_body (scope_tree p) o))
          with_clauses None h = scope
          with_clauses (Some c) h =
              let (calls, kept) = h c refl in
              subst (IsKept false passes AnyKind) (sym (conjoined facts holds (scope_tree p) c))
              (and_kept false passes AnyKind facts keeps (partial_in facts holds (scope_tree p)) (partial_in facts holds c) c scope kept calls)
