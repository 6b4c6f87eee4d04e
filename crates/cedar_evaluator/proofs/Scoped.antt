-- What the scope of a policy asks, decided by the entities that are given.
use Rattle.std.proofs.Common.{◌≡◌, Bool, true, false, Option, Some, None, is_some, option_map, map, refl, sym, ◌∙◌, ap, subst}
use Rattle.std.specs.Borrow.{Bor}
use Rattle.std.specs.Option.{option_copied}
use Rattle.cedar_language.specs.Uid.{Name, Uid}
use Rattle.cedar_language.specs.Tree.{Boolean, Entity, Operator, Equal, In, Is, MakeSet, Variable, Action, SlotId, Tree, Lit, Var, Apply, And}
use Rattle.cedar_language.specs.Value.{Value, Plain, SetOf, no_values}
use Rattle.cedar_language.specs.Order.{same_name, same_uid, rising}
use Rattle.cedar_language.specs.Facts.{Facts}
use Rattle.cedar_language.specs.Meaning.{slot_outcome}
use Rattle.cedar_language.specs.Operators.{applied, is_within, within_members}
use Rattle.cedar_grammar.specs.Build.{trees, unary, binary, conjunction}
use Rattle.cedar_grammar.specs.Policy.{Target, the_entity, the_slot, Constraint, anything, equals, within, of_type, of_type_within, ActionConstraint, any_action, action_equals, action_within_any, target_tree, constraint_tree, action_tree, with_body}
use Rattle.cedar_partial_evaluation.specs.Partial.{Evaluated, AllEvaluated, and_answer, and_next, last_answer, answer_of, apply_answer, LeafAnswers, partial_in}
use Rattle.cedar_grammar.specs.Scopes.{and_then_met, action_meets}
use Rattle.cedar_partial_evaluation.proofs.Scopes.{entity_equal, conjoined, entities, all_listed, rising_uids}
use Rattle.cedar_policy_parts.specs.References.{target_bound}
use Rattle.cedar_entities.specs.Data.{EntityData}
use Rattle.cedar_entities.specs.declared.store.Entities.{Entities}
use Rattle.cedar_value_operators.specs.Operands.{two}
use Rattle.cedar_operators.specs.Hierarchy.{is_within_entity}
use Rattle.cedar_operators.specs.Store.{HasFacts}
use Rattle.cedar_interpreter.specs.Seen.{IsSeen}
use Rattle.cedar_policy_set.specs.ScopeNaming.{is_settled}
use Rattle.cedar_evaluator.specs.Scopes.{IsDecided, IsTold, constraint_met, unasked}
use Rattle.cedar_evaluator.proofs.Unmet.{settled}

-- ---- conjunctions

module _ (facts : Facts) (holds : LeafAnswers) where
  left_decides : (l r : Tree) → partial_in facts holds l ≡ Evaluated (Plain (Boolean false)) → partial_in facts holds (conjunction l r) ≡ Evaluated (Plain (Boolean false))
  left_decides l r h = conjoined facts holds l r ∙ ap (λ a. and_answer facts a (partial_in facts holds r) r) h

  pub right_decides : (l r : Tree) → partial_in facts holds l ≡ Evaluated (Plain (Boolean true)) → partial_in facts holds (conjunction l r) ≡ last_answer (And (Lit (Boolean true))) (partial_in facts holds r)
  right_decides l r h = conjoined facts holds l r ∙ ap (λ a. and_answer facts a (partial_in facts holds r) r) h

  pub both_decided : (l r : Tree) (o p : Option Bool) → IsDecided facts holds l o → IsDecided facts holds r p → IsDecided facts holds (conjunction l r) (and_then_met o p)
  both_decided l r (Some true) (Some b) h k = right_decides l r h ∙ ap (last_answer (And (Lit (Boolean true)))) k
  both_decided l r (Some true) None h k = tt
  both_decided l r (Some false) p h k = left_decides l r h
  both_decided l r None p h k = tt

  -- of three the first alone, or the second behind a first that is a Boolean
  pub false_first : (p a r : Tree) → IsDecided facts holds p (Some false) → IsDecided facts holds (conjunction (conjunction p a) r) (Some false)
  false_first p a r h = left_decides (conjunction p a) r (left_decides p a h)

  pub false_second : (p a r : Tree) → IsTold facts holds p → IsDecided facts holds a (Some false) → IsDecided facts holds (conjunction (conjunction p a) r) (Some false)
  false_second p a r (b, told) h = left_decides (conjunction p a) r (by b told)
    where
      by : (c : Bool) → IsDecided facts holds p (Some c) → IsDecided facts holds (conjunction p a) (Some false)
      by true k = both_decided p a (Some true) (Some false) k h
      by false k = left_decides p a k

  -- behind a scope that doesn't hold no clause is read
  pub out_of_scope : (scope : Tree) (body : Option Tree) → partial_in facts holds scope ≡ Evaluated (Plain (Boolean false)) → partial_in facts holds (with_body scope body) ≡ Evaluated (Plain (Boolean false))
  out_of_scope scope None h = h
  out_of_scope scope (Some c) h = left_decides scope c h

-- ---- single constraints

mapped : (f : Uid → Bool) (o : Option Uid) (b : Bool) → option_map f o ≡ Some b → (x : Uid) × (o ≡ Some x) × (f x ≡ b)
mapped f (Some x) b e = (x, refl, cc)
mapped f None b e = absurd (cc e)

same_entity : (x y : Uid) → Some x ≡ Some y → x ≡ y
same_entity x y e = cc

module _ (facts : Facts) (holds : LeafAnswers) (v : Variable) (u : Uid) (given : holds.variable v ≡ Evaluated (Plain (Entity u))) where
  decided_at : (t : Tree) (o : Option Bool) → ((b : Bool) → o ≡ Some b → partial_in facts holds t ≡ Evaluated (Plain (Boolean b))) → IsDecided facts holds t o
  decided_at t None h = tt
  decided_at t (Some b) h = h b refl

  compared : (op : Operator) (t : Tree) (w : Value) → partial_in facts holds t ≡ Evaluated w → partial_in facts holds (binary op (Var v) t) ≡ answer_of (applied facts op (two (Plain (Entity u)) w))
  compared op t w h =
      ap (λ a. apply_answer facts holds op (and_next facts a (and_next facts (partial_in facts holds t) (AllEvaluated no_values)))) given
      ∙ ap (λ a. apply_answer facts holds op (and_next facts (Evaluated (Plain (Entity u))) (and_next facts a (AllEvaluated no_values)))) h

  module _ (s : SlotId) (bound : Option Uid) (binds : holds.slot s ≡ answer_of (slot_outcome bound)) where
    target_answers : (t : Target) (x : Uid) → target_bound bound t ≡ Some x → partial_in facts holds (target_tree s t) ≡ Evaluated (Plain (Entity x))
    target_answers (the_entity y) x e = ap (λ z. Evaluated (Plain (Entity z))) (same_entity y x e)
    target_answers the_slot x e = binds ∙ ap (λ o. answer_of (slot_outcome o)) e

    within_decided : (t : Target) → IsDecided facts holds (binary In (Var v) (target_tree s t)) (option_map (is_within facts u) (target_bound bound t))
    within_decided t =
        decided_at (binary In (Var v) (target_tree s t)) _ (λ b e.
        let (x, is, met) = mapped (is_within facts u) (target_bound bound t) b e in
        compared In (target_tree s t) (Plain (Entity x)) (target_answers t x is) ∙ ap (λ y. Evaluated (Plain (Boolean y))) met)

    type_decided : (name : Name) → partial_in facts holds (unary (Is name) (Var v)) ≡ Evaluated (Plain (Boolean (same_name u.type_name name)))
    type_decided name = ap (λ a. apply_answer facts holds (Is name) (and_next facts a (AllEvaluated no_values))) given

    pub constraint_decided : (c : Constraint) → IsDecided facts holds (constraint_tree v s c) (constraint_met (is_within facts u) u bound c)
    constraint_decided anything = refl
    constraint_decided (equals t) =
        decided_at (binary Equal (Var v) (target_tree s t)) _ (λ b e.
        let (x, is, met) = mapped (same_uid u) (target_bound bound t) b e in
        compared Equal (target_tree s t) (Plain (Entity x)) (target_answers t x is) ∙ ap (λ y. Evaluated (Plain (Boolean y))) (entity_equal u x ∙ met))
    constraint_decided (within t) = within_decided t
    constraint_decided (of_type name) = type_decided name
    constraint_decided (of_type_within name t) = both_decided facts holds (unary (Is name) (Var v)) (binary In (Var v) (target_tree s t)) (Some (same_name u.type_name name)) _ (type_decided name) (within_decided t)

-- a constraint that asks nothing holds of each entity
pub nothing_asked : (facts : Facts) (holds : LeafAnswers) (v : Variable) (s : SlotId) (c : Constraint) → IsDecided facts holds (constraint_tree v s c) (unasked c)
nothing_asked facts holds v s anything = refl
nothing_asked facts holds v s (equals t) = tt
nothing_asked facts holds v s (within t) = tt
nothing_asked facts holds v s (of_type name) = tt
nothing_asked facts holds v s (of_type_within name t) = tt

-- so it is told
pub nothing_told : (facts : Facts) (holds : LeafAnswers) (v : Variable) (s : SlotId) (c : Constraint) (o : Option Bool) → o ≡ unasked c → is_some o ≡ true → IsTold facts holds (constraint_tree v s c)
nothing_told facts holds v s c (Some b) is some = (b, subst (IsDecided facts holds (constraint_tree v s c)) (sym is) (nothing_asked facts holds v s c))
nothing_told facts holds v s c None is some = absurd (cc some)

-- ---- the action

module _ (facts : Facts) (holds : LeafAnswers) (u : Uid) (given : holds.variable Action ≡ Evaluated (Plain (Entity u))) where
  pub action_decided : (c : ActionConstraint) → partial_in facts holds (action_tree c) ≡ Evaluated (Plain (Boolean (action_meets (λ a. is_within facts u) c u)))
  action_decided any_action = refl
  action_decided (action_equals x) =
      compared facts holds Action u given Equal (Lit (Entity x)) (Plain (Entity x)) refl ∙ ap (λ y. Evaluated (Plain (Boolean y))) (entity_equal u x)
  action_decided (action_within_any us) =
      let listed = Apply MakeSet (trees (map (λ x. Lit (Entity x)) us)) in
      let set = SetOf (rising (entities us)) in
      let made : partial_in facts holds listed ≡ Evaluated set = ap (λ as_. apply_answer facts holds MakeSet as_) (all_listed facts holds us) in
      let found = rising_uids facts us in
      compared facts holds Action u given In listed set made
      ∙ ap (λ o. answer_of (within_members facts u o)) found.uids_are
      ∙ ap (λ y. Evaluated (Plain (Boolean y))) (found.found u)

-- ---- with what a store holds

module _ (facts : Facts) (store : Entities) (has : HasFacts store facts) (u : Uid) (o : Option (Bor EntityData)) (seen : IsSeen store u (option_copied o)) where
  test_is : is_within_entity u (option_copied o) ≡ is_within facts u
  test_is = λ i b. seen.1 facts has b i

  pub constraint_held : (holds : LeafAnswers) (v : Variable) (s : SlotId) (bound : Option Uid) (c : Constraint) → holds.variable v ≡ Evaluated (Plain (Entity u)) → holds.slot s ≡ answer_of (slot_outcome bound) →
      IsDecided facts holds (constraint_tree v s c) (constraint_met (is_within_entity u (option_copied o)) u bound c)
  constraint_held holds v s bound c given binds =
      subst (λ (test : Uid → Bool). IsDecided facts holds (constraint_tree v s c) (constraint_met test u bound c)) (sym test_is) (constraint_decided facts holds v u given s bound binds c)

  pub action_held : (holds : LeafAnswers) (c : ActionConstraint) → holds.variable Action ≡ Evaluated (Plain (Entity u)) →
      IsDecided facts holds (action_tree c) (Some (action_meets (λ a. is_within_entity u (option_copied o)) c u))
  action_held holds c given =
      subst (λ (test : Uid → Bool). IsDecided facts holds (action_tree c) (Some (action_meets (λ a. test) c u))) (sym test_is) (action_decided facts holds u given c)

  -- where its slot is bound it is met or not
  pub constraint_told : (holds : LeafAnswers) (v : Variable) (s : SlotId) (bound : Option Uid) (c : Constraint) → holds.variable v ≡ Evaluated (Plain (Entity u)) → holds.slot s ≡ answer_of (slot_outcome bound) →
      is_settled bound c ≡ true → IsTold facts holds (constraint_tree v s c)
  constraint_told holds v s bound c given binds is =
      let (b, met) = settled (is_within_entity u (option_copied o)) u bound c is in
      (b, subst (IsDecided facts holds (constraint_tree v s c)) met (constraint_held holds v s bound c given binds))
