-- A written link is read as its template with the bound entities in the place of the slots.
use Rattle.std.proofs.Common.{◌≡◌, ℕ, zero, suc, List, [], ◌∷◌, ◌++◌, map, Option, Some, None, refl, sym, ap, ◌∙◌, subst, true, arith}
use Rattle.cedar_language.specs.Uid.{Text, Uid}
use Rattle.cedar_language.specs.Tree.{Tree, SlotId, PrincipalSlot, ResourceSlot}
use Rattle.cedar_grammar.specs.Token as token
use Rattle.cedar_grammar.specs.Token.{Token, Mark, Word, word, text, slot, mark}
use Rattle.cedar_grammar.specs.Names.{Names}
use Rattle.cedar_grammar.specs.Build.{Keyed}
use Rattle.cedar_grammar.specs.Grammar.{Rule, Ids, Within}
use Rattle.cedar_grammar.specs.Policy.{Effect, ActionConstraint, Target, the_entity, the_slot, Constraint, anything, equals, within, of_type, of_type_within, Policy, Slots, bound_target, bound_constraint, bound_tree, bound}
use Rattle.cedar_grammar.specs.Policies.{Annotation, key_alone, key_value, Each, no_more, one_more, TargetRule, entity_target, slot_target, in_parens, ConstraintRule, no_constraint, equals_target, in_target, is_type, is_type_in, ActionEntity, action_entity, action_in_parens, ListedAction, ActionRule, no_action, equals_action, in_action, in_actions, ScopeEnd, closed, comma_closed, Clause, when_is, unless_is, HeadRule, head, ScopeRule, scope, PolicyRule, policy, PolicyWithin, ArePolicies, slot_of, Filled, all_filled, kept, replaced}
use Rattle.cedar_grammar.specs.Laws.{LinksAreRead, LinksAreOne}
use Rattle.cedar_grammar.proofs.BoundTrees.{body-bound}
use Rattle.cedar_grammar.proofs.Kept.{stay, keeps, Keeps, Moves, kept-as, ahead, ids-keep, entity-keeps, entity-before, items-keep, within-moves}
use Rattle.cedar_grammar.proofs.Laws.{one_policies}

entity-bound : (o : Option Uid) (u : Uid) → the_entity u ≡ bound_target o (the_entity u)
entity-bound None u = refl
entity-bound (Some v) u = refl

module _ (b : Slots) where
  -- ---- rules without slots

  each-keeps : {A : Type 0} (r : Rule A) → Keeps b r → Keeps b (Each r)
  each-keeps r g ts xs rest us no_more f = (us, no_more, f, omega arith)
  each-keeps r g ts xs rest us (one_more {x} {xs = ys} mid d more) f =
      let m = g ts x mid us d f in
      let n = each-keeps r g mid ys rest m.0 more m.2 in
      let k = m.3 in
      let l = n.3 in (n.0, one_more m.0 m.1 n.1, n.2, omega arith)

  annotation-keeps : Keeps b Annotation
  annotation-keeps ts x rest us (key_alone {w}) f =
      let k = keeps b (mark token.At ∷ word w ∷ []) refl rest us f in
      kept-as b Annotation x ts rest us (mark token.At ∷ word w ∷ k.0) k.0 k.1 key_alone k.2 (omega arith)
  annotation-keeps ts x rest us (key_value {w} {raw} e) f =
      let k = keeps b (mark token.At ∷ word w ∷ mark token.LeftParen ∷ text raw ∷ mark token.RightParen ∷ []) refl rest us f in
      kept-as b Annotation x ts rest us (mark token.At ∷ word w ∷ mark token.LeftParen ∷ text raw ∷ mark token.RightParen ∷ k.0) k.0 k.1 (key_value e) k.2 (omega arith)

  action-keeps : (n : ℕ) → Keeps b (ActionEntity n)
  action-keeps n ts u rest us (action_entity d e) f = let m = entity-keeps b ts u rest us d f in (m.0, action_entity m.1 e, m.2, m.3)
  action-keeps n ts u rest us (action_in_parens {n = c} {ts = vs} d) f =
      let k = keeps b (mark token.LeftParen ∷ []) refl vs us f in
      let m = ahead b (ActionEntity c) u vs k.0 (mark token.RightParen ∷ []) rest refl (action-keeps c vs u (mark token.RightParen ∷ rest) k.0 d k.2) in
      let l = m.3 in kept-as b (ActionEntity n) u ts rest us (mark token.LeftParen ∷ k.0) m.0 k.1 (action_in_parens m.1) m.2 (omega arith)

  listed-keeps : (n : ℕ) → Keeps b (ListedAction n)
  listed-keeps zero ts u rest us d f = absurd d
  listed-keeps (suc n) ts u rest us d f = action-keeps n ts u rest us d f

  action_rule-keeps : (n : ℕ) → Keeps b (ActionRule n)
  action_rule-keeps n ts a rest us no_action f = let k = keeps b (word token.Action ∷ []) refl rest us f in kept-as b (ActionRule n) a ts rest us (word token.Action ∷ k.0) k.0 k.1 no_action k.2 (omega arith)
  action_rule-keeps n ts a rest us (equals_action {u} {ts = vs} d) f =
      let k = keeps b (word token.Action ∷ mark token.EqualEqual ∷ []) refl vs us f in
      let m = action-keeps n vs u rest k.0 d k.2 in
      let l = m.3 in kept-as b (ActionRule n) a ts rest us (word token.Action ∷ mark token.EqualEqual ∷ k.0) m.0 k.1 (equals_action m.1) m.2 (omega arith)
  action_rule-keeps n ts a rest us (in_action {u} {ts = vs} d) f =
      let k = keeps b (word token.Action ∷ word token.In ∷ []) refl vs us f in
      let m = action-keeps n vs u rest k.0 d k.2 in
      let l = m.3 in kept-as b (ActionRule n) a ts rest us (word token.Action ∷ word token.In ∷ k.0) m.0 k.1 (in_action m.1) m.2 (omega arith)
  action_rule-keeps n ts a rest us (in_actions {us = xs} {ts = vs} its) f =
      let k = keeps b (word token.Action ∷ word token.In ∷ mark token.LeftBracket ∷ []) refl vs us f in
      let m = items-keep b token.RightBracket (ListedAction n) (listed-keeps n) vs xs rest k.0 its k.2 in
      let l = m.3 in kept-as b (ActionRule n) a ts rest us (word token.Action ∷ word token.In ∷ mark token.LeftBracket ∷ k.0) m.0 k.1 (in_actions m.1) m.2 (omega arith)

  clause-moves : (r : Rule Tree) → Moves b (bound_tree b) r → Moves b (bound_tree b) (Clause r)
  clause-moves r g ts t rest us (when_is {ts = vs} d) f =
      let k = keeps b (word token.When ∷ mark token.LeftBrace ∷ []) refl vs us f in
      let m = ahead b r (bound_tree b t) vs k.0 (mark token.RightBrace ∷ []) rest refl (g vs t (mark token.RightBrace ∷ rest) k.0 d k.2) in
      let l = m.3 in kept-as b (Clause r) (bound_tree b t) ts rest us (word token.When ∷ mark token.LeftBrace ∷ k.0) m.0 k.1 (when_is m.1) m.2 (omega arith)
  clause-moves r g ts t rest us (unless_is {t = x} {ts = vs} d) f =
      let k = keeps b (word token.Unless ∷ mark token.LeftBrace ∷ []) refl vs us f in
      let m = ahead b r (bound_tree b x) vs k.0 (mark token.RightBrace ∷ []) rest refl (g vs x (mark token.RightBrace ∷ rest) k.0 d k.2) in
      let l = m.3 in kept-as b (Clause r) (bound_tree b t) ts rest us (word token.Unless ∷ mark token.LeftBrace ∷ k.0) m.0 k.1 (unless_is m.1) m.2 (omega arith)

  each-moves : {A : Type 0} (h : A → A) (r : Rule A) → Moves b h r → Moves b (map h) (Each r)
  each-moves h r g ts xs rest us no_more f = (us, no_more, f, omega arith)
  each-moves h r g ts xs rest us (one_more {x} {xs = ys} mid d more) f =
      let m = g ts x mid us d f in
      let n = each-moves h r g mid ys rest m.0 more m.2 in
      let k = m.3 in
      let l = n.3 in (n.0, one_more m.0 m.1 n.1, n.2, omega arith)

  -- ---- the scope

  -- the rule gives y of the filled tokens
  abbrev Moved : {A : Type 0} → Rule A → A → List Token → List Token → Type 0
  Moved r y rest us = (more : List Token) × r us y more × Filled b rest more

  moved-as : {A : Type 0} (r : Rule A) (y : A) (rest us vs more : List Token) → us ≡ vs → r vs y more → Filled b rest more → Moved r y rest us
  moved-as r y rest us vs more e d f = (more, subst (λ q. r q y more) (sym e) d, f)

  moved-ahead : {A : Type 0} (r : Rule A) (y : A) (us front rest : List Token) → stay front ≡ true → Moved r y (front ++ rest) us → (more : List Token) × r us y (front ++ more) × Filled b rest more
  moved-ahead r y us front rest e m = let k = keeps b front e rest m.0 m.2 in (k.0, subst (λ q. r us y q) k.1 m.1, k.2)

  module _ (own : Word) (s : SlotId) (slots : slot_of (slot own) ≡ Some s) (n : ℕ) where
    -- the own slot, in the place of which the bound entity stands
    slot-moves : (rest us : List Token) → Filled b (slot own ∷ rest) us → Moved (TargetRule own n) (bound_target (b s) the_slot) rest us
    slot-moves rest us (kept t {us = vs} g f) = let same : Some s ≡ None = sym slots ∙ g in absurd (cc same)
    slot-moves rest us (replaced t z u spelling {us = vs} g h d f) =
        let same : Some s ≡ Some z = sym slots ∙ g in
        let is : s ≡ z = cc same in
        let binds : b s ≡ Some u = ap b is ∙ h in
        (vs, subst (λ o. TargetRule own n (spelling ++ vs) (bound_target o the_slot) vs) (sym binds) (entity_target (entity-before spelling u [] vs d)), f)

  target-moves : (own : Word) (s : SlotId) → slot_of (slot own) ≡ Some s → (n : ℕ) (ts : List Token) (e : Target) (rest us : List Token) → TargetRule own n ts e rest → Filled b ts us → Moved (TargetRule own n) (bound_target (b s) e) rest us
  target-moves own s o n ts e rest us (entity_target {u} d) f = let m = entity-keeps b ts u rest us d f in (m.0, subst (λ x. TargetRule own n us x m.0) (entity-bound (b s) u) (entity_target m.1), m.2)
  target-moves own s o n ts e rest us slot_target f = slot-moves own s o n rest us f
  target-moves own s o n ts e rest us (in_parens {n = c} {ts = vs} d) f =
      let k = keeps b (mark token.LeftParen ∷ []) refl vs us f in
      let m = moved-ahead (TargetRule own c) (bound_target (b s) e) k.0 (mark token.RightParen ∷ []) rest refl (target-moves own s o c vs e (mark token.RightParen ∷ rest) k.0 d k.2) in
      moved-as (TargetRule own n) (bound_target (b s) e) rest us (mark token.LeftParen ∷ k.0) m.0 k.1 (in_parens m.1) m.2

  constraint-moves : (own : Word) (s : SlotId) → slot_of (slot own) ≡ Some s → (n : ℕ) (ts : List Token) (c : Constraint) (rest us : List Token) → ConstraintRule own n ts c rest → Filled b ts us → Moved (ConstraintRule own n) (bound_constraint (b s) c) rest us
  constraint-moves own s o n ts c rest us no_constraint f = let k = keeps b (word own ∷ []) refl rest us f in moved-as (ConstraintRule own n) anything rest us (word own ∷ k.0) k.0 k.1 no_constraint k.2
  constraint-moves own s o n ts c rest us (equals_target {e} {ts = vs} d) f =
      let k = keeps b (word own ∷ mark token.EqualEqual ∷ []) refl vs us f in
      let m = target-moves own s o n vs e rest k.0 d k.2 in
      moved-as (ConstraintRule own n) (equals (bound_target (b s) e)) rest us (word own ∷ mark token.EqualEqual ∷ k.0) m.0 k.1 (equals_target m.1) m.2
  constraint-moves own s o n ts c rest us (in_target {e} {ts = vs} d) f =
      let k = keeps b (word own ∷ word token.In ∷ []) refl vs us f in
      let m = target-moves own s o n vs e rest k.0 d k.2 in
      moved-as (ConstraintRule own n) (within (bound_target (b s) e)) rest us (word own ∷ word token.In ∷ k.0) m.0 k.1 (in_target m.1) m.2
  constraint-moves own s o n ts c rest us (is_type {p} {ts = vs} d) f =
      let k = keeps b (word own ∷ word token.Is ∷ []) refl vs us f in
      let m = ids-keep b token.ColonColon vs p rest k.0 d k.2 in
      moved-as (ConstraintRule own n) (of_type p) rest us (word own ∷ word token.Is ∷ k.0) m.0 k.1 (is_type m.1) m.2
  constraint-moves own s o n ts c rest us (is_type_in {p} {e} {ts = vs} mid d g) f =
      let k = keeps b (word own ∷ word token.Is ∷ []) refl vs us f in
      let m = ahead b (Ids token.ColonColon) p vs k.0 (word token.In ∷ []) mid refl (ids-keep b token.ColonColon vs p (word token.In ∷ mid) k.0 d k.2) in
      let w = target-moves own s o n mid e rest m.0 g m.2 in
      moved-as (ConstraintRule own n) (of_type_within p (bound_target (b s) e)) rest us (word own ∷ word token.Is ∷ k.0) w.0 k.1 (is_type_in m.0 m.1 w.1) w.2

  end-moves : (ts rest us : List Token) → ScopeEnd ts rest → Filled b ts us → (more : List Token) × ScopeEnd us more × Filled b rest more
  end-moves ts rest us closed f = let k = keeps b (mark token.RightParen ∷ []) refl rest us f in (k.0, subst (λ q. ScopeEnd q k.0) (sym k.1) closed, k.2)
  end-moves ts rest us comma_closed f = let k = keeps b (mark token.Comma ∷ mark token.RightParen ∷ []) refl rest us f in (k.0, subst (λ q. ScopeEnd q k.0) (sym k.1) comma_closed, k.2)

  scope-moves : (n : ℕ) (ts : List Token) (p : Constraint) (a : ActionConstraint) (r : Constraint) (rest us : List Token) → ScopeRule n ts p a r rest → Filled b ts us
      → (more : List Token) × ScopeRule n us (bound_constraint (b PrincipalSlot) p) a (bound_constraint (b ResourceSlot) r) more × Filled b rest more
  scope-moves n ts p a r rest us (scope _ _ _ t1 t2 t3 d e g h) f =
      let one = moved-ahead (ConstraintRule token.Principal n) (bound_constraint (b PrincipalSlot) p) us (mark token.Comma ∷ []) t1 refl (constraint-moves token.Principal PrincipalSlot refl n ts p (mark token.Comma ∷ t1) us d f) in
      let two = ahead b (ActionRule n) a t1 one.0 (mark token.Comma ∷ []) t2 refl (action_rule-keeps n t1 a (mark token.Comma ∷ t2) one.0 e one.2) in
      let three = constraint-moves token.Resource ResourceSlot refl n t2 r t3 two.0 g two.2 in
      let four = end-moves t3 rest three.0 h three.2 in
      (four.0, scope (bound_constraint (b PrincipalSlot) p) a (bound_constraint (b ResourceSlot) r) one.0 two.0 three.0 one.1 two.1 three.1 four.1, four.2)

  -- ---- policies

  head-moves : (ts : List Token) (xs : List (Keyed Text)) (e : Effect) (rest us : List Token) → HeadRule ts xs e rest → Filled b ts us → (more : List Token) × HeadRule us xs e more × Filled b rest more
  head-moves ts xs e rest us (head _ w d g h) f =
      let m = ahead b (Each Annotation) xs ts us (word w ∷ mark token.LeftParen ∷ []) rest refl (each-keeps Annotation annotation-keeps ts xs (word w ∷ mark token.LeftParen ∷ rest) us d f) in
      (m.0, head xs w m.1 g h, m.2)

  policy-moves : (names : Names) (n : ℕ) (ts : List Token) (x : Policy) (rest us : List Token) → PolicyRule names n ts x rest → Filled b ts us → Moved (PolicyRule names n) (bound b x) rest us
  policy-moves names n ts x rest us (policy xs e p a r cs t1 t2 h s d) f =
      let one = head-moves ts xs e t1 us h f in
      let two = scope-moves n t1 p a r t2 one.0 s one.2 in
      let expr = Within names (suc n) in
      let three = ahead b (Each (Clause expr)) (map (bound_tree b) cs) t2 two.0 (mark token.Semicolon ∷ []) rest refl (each-moves (bound_tree b) (Clause expr) (clause-moves expr (within-moves b names (suc n))) t2 cs (mark token.Semicolon ∷ rest) two.0 d two.2) in
      (three.0, subst (λ o. PolicyRule names n us (record (bound b x) { body = o }) three.0) (body-bound b cs) (policy xs e (bound_constraint (b PrincipalSlot) p) a (bound_constraint (b ResourceSlot) r) (map (bound_tree b) cs) one.0 two.0 one.1 two.1 three.1), three.2)

  policy_within-moves : (names : Names) (n : ℕ) (ts : List Token) (x : Policy) (rest us : List Token) → PolicyWithin names n ts x rest → Filled b ts us → Moved (PolicyWithin names n) (bound b x) rest us
  policy_within-moves names zero ts x rest us d f = absurd d
  policy_within-moves names (suc n) ts x rest us d f = policy-moves names n ts x rest us d f

nothing-filled : (b : Slots) (us : List Token) → Filled b [] us → us ≡ []
nothing-filled b us all_filled = refl

pub links_are_read : LinksAreRead
links_are_read names p b us l =
    let m = policy_within-moves b names l.0 l.1 p [] us l.2 l.3 in
    (l.0, subst (λ q. PolicyWithin names l.0 us (bound b p) q) (nothing-filled b m.0 m.2) m.1)

one-link : (names : Names) (n : ℕ) (us : List Token) (p : Policy) → PolicyWithin names n us p [] → ArePolicies names n us (p ∷ [])
one-link names zero us p d = absurd d
one-link names (suc n) us p d = one_more [] d no_more

pub links_are_one : LinksAreOne
links_are_one names p b us n ps l d =
    let read = links_are_read names p b us l in one_policies names n read.0 us ps (bound b p ∷ []) d (one-link names read.0 us (bound b p) read.1)
