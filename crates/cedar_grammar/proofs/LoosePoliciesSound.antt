-- What the loose reading gives, and the conversion makes policies of, the strict grammar has.
use Rattle.std.proofs.Common.{◌≡◌, ℕ, zero, suc, true, cond, List, [], ◌∷◌, Option, Some, None, Ok, refl, sym, ap, ◌∙◌, subst}
use Rattle.cedar_language.specs.Uid.{Text, Name, Uid}
use Rattle.cedar_language.specs.Tree.{Tree}
use Rattle.cedar_language.specs.Tree as tree
use Rattle.cedar_grammar.specs.Token as token
use Rattle.cedar_grammar.specs.Token.{Word, Mark, Token, word, number, text, slot, mark, spelled}
use Rattle.cedar_grammar.specs.Escape.{string_of}
use Rattle.cedar_grammar.specs.Names.{Names, are_distinct}
use Rattle.cedar_grammar.specs.Build.{Keyed, keys, unary, by_key}
use Rattle.cedar_grammar.specs.Grammar.{Ids, Items, no_items, last_item, an_item, Within}
use Rattle.cedar_grammar.specs.Policy.{Target, the_entity, the_slot, Constraint, anything, equals, within, of_type, of_type_within, ActionConstraint, any_action, action_equals, action_within_any, Policy}
use Rattle.cedar_grammar.specs.Policies.{Annotation, key_alone, key_value, Each, TargetRule, entity_target, slot_target, in_parens, ConstraintRule, no_constraint, equals_target, in_target, is_type, is_type_in, ActionEntity, action_entity, action_in_parens, ListedAction, ActionRule, no_action, equals_action, in_action, in_actions, closed, comma_closed, Clause, when_is, unless_is, HeadRule, head, ScopeRule, scope, PolicyRule, policy, PolicyWithin, ends_in_action, effect_of, body_of}
use Rattle.cedar_grammar.specs.Steps.{◌>>=◌, eat, word_read, text_read, begins_annotation, is_more}
use Rattle.cedar_grammar.proofs.Parts.{bind_some, cond_some, eat-is, text_read-is}
use Rattle.cedar_grammar.specs.Loose as loose
use Rattle.cedar_grammar.specs.Loose.{exprs}
use Rattle.cedar_grammar.specs.LooseReading.{Reader, ◌>>◌, needed, each_of, items_of, operator_at, rel_op, name_of, add_of, slot_of, expr_at, annotated, annotation_of, eat_is, optional, compared_step, variable_def_of, braced, cond_of, begins_cond, policy_of}
use Rattle.cedar_grammar.specs.Converting as converting
use Rattle.cedar_grammar.specs.Converting.{each, str_text, ref_entity, expr_tree, inside_parens, opened, primary_target, target, is_own, type_of, lone_primary, primary_path, compared_with, typed_within, asked, constraint, primary_action, action, actions, actions_among, action_asked, action_constraint, clause_by, clause, distinct_keys, policy_syntax, owns}
use Rattle.cedar_grammar.proofs.Basics.{bind_ok, needed_ok, ok_pair, mapped_ok, word_read-is}
use Rattle.cedar_grammar.proofs.Loops.{Sounds, moved, items-sound, each-sound, operator-is}
use Rattle.cedar_grammar.proofs.Equations.{actions-each}
use Rattle.cedar_grammar.proofs.Lone.{lone, alone-is, expr-lone, Told, told}
use Rattle.cedar_grammar.proofs.LooseSound.{ref-sound, sum-told, path-told, within-sound}
use Rattle.cedar_grammar.proofs.LoosePoliciesComplete.{Given}
use Rattle.cedar_grammar.proofs.PolicyRests.{eat_is-is, Defined, defined, Parts, parts}

-- ---- annotations

annotated-sound : (w : Word) (us : List Token) (o : Option (List Token)) (a : loose.Annotation) (x : Keyed Text) (rest : List Token) → eat token.LeftParen us ≡ o → annotated w us o ≡ Ok (a, rest) → converting.annotation_syntax a ≡ Some x → Annotation (mark token.At ∷ word w ∷ us) x rest
annotated-sound w us None a x rest e f g =
    let v = ok_pair f in
    let same : ◌≡◌ {A = Keyed Text} (spelled w, []) x = cc (ap converting.annotation_syntax v.0 ∙ g) in
    moved Annotation (mark token.At ∷ word w ∷ us) us rest (spelled w, []) x same v.1 key_alone
annotated-sound w us (Some vs) a x rest e f g =
    let one = bind_ok (needed (text_read vs)) (λ raw. needed (eat token.RightParen raw.1) >> λ qs. Ok (loose.annotation (loose.ident w) (Some (loose.string raw.0)), qs)) f in
    let two = bind_ok (needed (eat token.RightParen one.0.1)) (λ qs. Ok (loose.annotation (loose.ident w) (Some (loose.string one.0.0)), qs)) one.2 in
    let v = ok_pair two.2 in
    let three = bind_some (string_of one.0.0) (λ t. Some ((spelled w, t))) (ap converting.annotation_syntax v.0 ∙ g) in
    let same : ◌≡◌ {A = Keyed Text} (spelled w, three.0) x = cc three.2 in
    let at : us ≡ mark token.LeftParen ∷ text one.0.0 ∷ mark token.RightParen ∷ two.0 = eat-is token.LeftParen us vs e ∙ ap (λ q. mark token.LeftParen ∷ q) (text_read-is vs one.0.1 one.0.0 (needed_ok (text_read vs) one.1)) ∙ ap (λ q. mark token.LeftParen ∷ text one.0.0 ∷ q) (eat-is token.RightParen one.0.1 two.0 (needed_ok (eat token.RightParen one.0.1) two.1)) in
    rw at (moved Annotation (mark token.At ∷ word w ∷ mark token.LeftParen ∷ text one.0.0 ∷ mark token.RightParen ∷ two.0) two.0 rest (spelled w, three.0) x same v.1 (key_value three.1))

annotation-sound : Sounds Annotation annotation_of converting.annotation_syntax
unfolding annotation_of
annotation-sound ts a x rest e g =
    let one = bind_ok (needed (eat token.At ts)) (λ us. needed (word_read us) >> λ w. annotated w.0 w.1 (eat token.LeftParen w.1)) e in
    let two = bind_ok (needed (word_read one.0)) (λ w. annotated w.0 w.1 (eat token.LeftParen w.1)) one.2 in
    let at : ts ≡ mark token.At ∷ word two.0.0 ∷ two.0.1 = eat-is token.At ts one.0 (needed_ok (eat token.At ts) one.1) ∙ ap (λ q. mark token.At ∷ q) (word_read-is one.0 two.0.1 two.0.0 (needed_ok (word_read one.0) two.1)) in
    rw at (annotated-sound two.0.0 two.0.1 (eat token.LeftParen two.0.1) a x rest refl two.2 g)

-- ---- what a scope compares with

inside-is : (e : loose.Expr) (q : loose.Primary) → inside_parens e ≡ Some q → (p : loose.Primary) × (e ≡ lone p) × (opened p ≡ Some q)
unfolding inside_parens
inside-is (loose.or_expr (loose.or (loose.and (loose.common (loose.add (loose.mult (loose.unary None (loose.member p loose.no_accesses)) loose.no_unaries) loose.no_mults) loose.no_adds) loose.no_relations) loose.no_ands)) q f = (p, refl, f)
inside-is e q f = absurd (cc f)

-- a primary alone at a level
at-told : (n : ℕ) (ts : List Token) (e : loose.Expr) (p : loose.Primary) (rest : List Token) → expr_at (suc n) ts ≡ Ok (e, rest) → e ≡ lone p → Told (expr_at n) p ts rest
unfolding expr_at
at-told n ts e p rest f g = told (expr_at n) ts p rest (expr-lone (expr_at n) ts p rest (f ∙ ap (λ x. Ok (x, rest)) g))

slot-word : (own w : Word) → is_own own (slot_of w) ≡ true → w ≡ own
slot-word token.Principal token.Principal e = refl
slot-word token.Principal token.Resource e = absurd (cc e)
slot-word token.Principal w e = absurd (cc e)
slot-word token.Resource token.Resource e = refl
slot-word token.Resource token.Principal e = absurd (cc e)
slot-word token.Resource w e = absurd (cc e)
slot-word own w e = absurd (cc e)

abbrev TargetsAt : Word → ℕ → Type 0
TargetsAt own n = (ts : List Token) (e : loose.Expr) (x : Target) (rest : List Token) → expr_at (suc n) ts ≡ Ok (e, rest) → target own e ≡ Some x → TargetRule own n ts x rest

-- at the level inside parentheses
abbrev TargetsBelow : Word → ℕ → Type 0
TargetsBelow own zero = Unit {0}
TargetsBelow own (suc n) = TargetsAt own n

parens-sound : (own : Word) (n : ℕ) → TargetsBelow own n → (us : List Token) (b : loose.Expr) (x : Target) (rest : List Token) → expr_at n us ≡ Ok (b, mark token.RightParen ∷ rest) → target own b ≡ Some x → TargetRule own n (mark token.LeftParen ∷ us) x rest
unfolding expr_at
parens-sound own zero ih us b x rest e f = absurd (cc e)
parens-sound own (suc n) ih us b x rest e f = in_parens (ih us b x (mark token.RightParen ∷ rest) e f)

target-inside : (own : Word) (n : ℕ) → TargetsBelow own n → (ts : List Token) (p q : loose.Primary) (x : Target) (rest : List Token) → Told (expr_at n) p ts rest → opened p ≡ Some q → primary_target own q ≡ Some x → TargetRule own n ts x rest
unfolding inside_parens
target-inside own n ih ts (loose.entity r) q x rest d e f =
    let one = bind_some (ref_entity r) (λ u. Some (the_entity u)) (ap (λ o. o >>= primary_target own) e ∙ f) in
    let made : the_entity one.0 ≡ x = cc one.2 in
    subst (λ y. TargetRule own n ts y rest) made (entity_target (ref-sound ts r one.0 rest d one.1))
target-inside own n ih ts (loose.slot s) q x rest d e f =
    let one = cond_some (is_own own s) (Some the_slot) (ap (λ o. o >>= primary_target own) e ∙ f) in
    let made : the_slot ≡ x = cc one.1 in
    let w = slot-word own d.0 (ap (is_own own) d.2 ∙ one.0) in
    rw (d.1, w, ← made) slot_target
target-inside own n ih ts (loose.expr b) q x rest d e f = rw d.1 (parens-sound own n ih d.0 b x rest d.2 (ap (λ o. o >>= primary_target own) e ∙ f))
target-inside own n ih ts p q x rest d e f = absurd (cc (ap (λ o. o >>= primary_target own) e ∙ f))

target-level : (own : Word) (n : ℕ) → TargetsBelow own n → TargetsAt own n
target-level own n ih ts e x rest f g =
    let one = bind_some (inside_parens e) (primary_target own) g in
    let two = inside-is e one.0 one.1 in
    target-inside own n ih ts two.0 one.0 x rest (at-told n ts e two.0 rest f two.1) two.2 one.2

target-sound : (own : Word) (n : ℕ) → TargetsAt own n
target-sound own zero = target-level own zero tt
target-sound own (suc n) = target-level own (suc n) (target-sound own n)

-- ---- the principal and the resource

owns-same : (own w : Word) → owns own w ≡ true → w ≡ own
owns-same token.Principal token.Principal e = refl
owns-same token.Resource token.Resource e = refl
owns-same own w e = absurd (cc e)

rel-eq : (o : Token) → rel_op o ≡ Some loose.eq → o ≡ mark token.EqualEqual
rel-eq (mark token.EqualEqual) e = refl
rel-eq (mark token.Less) e = absurd (cc e)
rel-eq (mark token.LessEqual) e = absurd (cc e)
rel-eq (mark token.Greater) e = absurd (cc e)
rel-eq (mark token.GreaterEqual) e = absurd (cc e)
rel-eq (mark token.NotEqual) e = absurd (cc e)
rel-eq (mark token.Equal) e = absurd (cc e)
rel-eq (word token.In) e = absurd (cc e)
rel-eq o e = absurd (cc e)

rel-in : (o : Token) → rel_op o ≡ Some loose.in_ → o ≡ word token.In
rel-in (word token.In) e = refl
rel-in (mark token.EqualEqual) e = absurd (cc e)
rel-in (mark token.Less) e = absurd (cc e)
rel-in (mark token.LessEqual) e = absurd (cc e)
rel-in (mark token.Greater) e = absurd (cc e)
rel-in (mark token.GreaterEqual) e = absurd (cc e)
rel-in (mark token.NotEqual) e = absurd (cc e)
rel-in (mark token.Equal) e = absurd (cc e)
rel-in o e = absurd (cc e)

optional-none : {A : Type 0} (rd : Reader A) (ts : List Token) (o : Option (List Token)) (rest : List Token) → optional rd ts o ≡ Ok (None, rest) → ts ≡ rest
optional-none rd ts None rest e = (ok_pair e).1
optional-none rd ts (Some us) rest e = absurd (cc (mapped_ok (λ x. Some x) (rd us) e).2)

optional-some : {A : Type 0} (rd : Reader A) (ts : List Token) (o : Option (List Token)) (x : A) (rest : List Token) → optional rd ts o ≡ Ok (Some x, rest) → (us : List Token) × (o ≡ Some us) × (rd us ≡ Ok (x, rest))
optional-some rd ts None x rest e = absurd (cc (ok_pair e).0)
optional-some rd ts (Some us) x rest e =
    let m = mapped_ok (λ y. Some y) (rd us) e in
    let same : m.0 ≡ x = cc m.2 in
    (us, refl, m.1 ∙ ap (λ y. Ok (y, rest)) same)

compared-none : (rd : Reader loose.Expr) (ts : List Token) (o : Option (loose.RelOp × List Token)) (rest : List Token) → compared_step rd ts o ≡ Ok (None, rest) → ts ≡ rest
compared-none rd ts None rest e = (ok_pair e).1
compared-none rd ts (Some y) rest e = absurd (cc (mapped_ok (λ z. Some (y.0, z)) (rd y.1) e).2)

-- how a comparison is read
record Compared (rd : Reader loose.Expr) (ts : List Token) (x : loose.RelOp × loose.Expr) (rest : List Token) : Type 0 where
  o : Token
  us : List Token
  front : ts ≡ o ∷ us
  op : rel_op o ≡ Some x.0
  read : rd us ≡ Ok (x.1, rest)

compared-some : (rd : Reader loose.Expr) (ts : List Token) (x : loose.RelOp × loose.Expr) (rest : List Token) (q : Option (loose.RelOp × List Token)) → operator_at rel_op ts ≡ q → compared_step rd ts q ≡ Ok (Some x, rest) → Compared rd ts x rest
compared-some rd ts x rest None f e = absurd (cc (ok_pair e).0)
compared-some rd ts x rest (Some y) f e =
    let m = mapped_ok (λ z. Some (y.0, z)) (rd y.1) e in
    let same : ◌≡◌ {A = loose.RelOp × loose.Expr} (y.0, m.0) x = cc m.2 in
    let at = operator-is rel_op ts y f in
    record { o = at.0; us = y.1; front = at.2; op = at.1 ∙ ap (λ z. Some z.0) same; read = m.1 ∙ ap (λ z. Ok (z.1, rest)) same }

type-told : (n : ℕ) (us : List Token) (t : loose.Add) (p : Name) (rest : List Token) → add_of (expr_at n) us ≡ Ok (t, rest) → type_of t ≡ Some p → Ids token.ColonColon us p rest
type-told n us t p rest e f = let one = bind_some (lone_primary t) primary_path f in path-told (expr_at n) one.0 us rest p (sum-told (expr_at n) us t one.0 rest e one.1) one.2

-- a comparison with a target
compared-sound : (own : Word) (n : ℕ) (us : List Token) (o : loose.RelOp) (e : loose.Expr) (k : Constraint) (rest : List Token) → Compared (expr_at (suc n)) us (o, e) rest → (target own e >>= compared_with o) ≡ Some k → ConstraintRule own n (word own ∷ us) k rest
compared-sound own n us loose.eq e k rest c f =
    let one = bind_some (target own e) (compared_with loose.eq) f in
    let same : equals one.0 ≡ k = cc one.2 in
    rw (c.front, rel-eq c.o c.op, ← same) (equals_target (target-sound own n c.us e one.0 rest c.read one.1))
compared-sound own n us loose.in_ e k rest c f =
    let one = bind_some (target own e) (compared_with loose.in_) f in
    let same : within one.0 ≡ k = cc one.2 in
    rw (c.front, rel-in c.o c.op, ← same) (in_target (target-sound own n c.us e one.0 rest c.read one.1))
compared-sound own n us o e k rest c f = let one = bind_some (target own e) (compared_with o) f in absurd (cc one.2)

typed-sound : (own : Word) (n : ℕ) (us mid : List Token) (t : loose.Add) (p : Name) (o : loose.RelOp) (e : loose.Expr) (k : Constraint) (rest : List Token) → add_of (expr_at n) us ≡ Ok (t, mid) → type_of t ≡ Some p → Compared (expr_at (suc n)) mid (o, e) rest → (target own e >>= typed_within p o) ≡ Some k → ConstraintRule own n (word own ∷ word token.Is ∷ us) k rest
typed-sound own n us mid t p loose.in_ e k rest a b c f =
    let one = bind_some (target own e) (typed_within p loose.in_) f in
    let same : of_type_within p one.0 ≡ k = cc one.2 in
    let at : mid ≡ word token.In ∷ c.us = c.front ∙ ap (λ q. q ∷ c.us) (rel-in c.o c.op) in
    rw (← same) (is_type_in c.us (subst (λ q. Ids token.ColonColon us p q) at (type-told n us t p mid a b)) (target-sound own n c.us e one.0 rest c.read one.1))
typed-sound own n us mid t p o e k rest a b c f = let one = bind_some (target own e) (typed_within p o) f in absurd (cc one.2)

asked-sound : (own : Word) (n : ℕ) (us mid : List Token) (t : Option loose.Add) (c : Option (loose.RelOp × loose.Expr)) (k : Constraint) (rest : List Token) → optional (add_of (expr_at n)) us (eat_is us) ≡ Ok (t, mid) → compared_step (expr_at (suc n)) mid (operator_at rel_op mid) ≡ Ok (c, rest) → asked own t c ≡ Some k → ConstraintRule own n (word own ∷ us) k rest
asked-sound own n us mid None None k rest e f g =
    let same : anything ≡ k = cc g in
    rw (optional-none (add_of (expr_at n)) us (eat_is us) mid e, compared-none (expr_at (suc n)) mid (operator_at rel_op mid) rest f, ← same) no_constraint
asked-sound own n us mid None (Some x) k rest e f g =
    rw (optional-none (add_of (expr_at n)) us (eat_is us) mid e) (compared-sound own n mid x.0 x.1 k rest (compared-some (expr_at (suc n)) mid x rest (operator_at rel_op mid) refl f) g)
asked-sound own n us mid (Some t) None k rest e f g =
    let o = optional-some (add_of (expr_at n)) us (eat_is us) t mid e in
    let one = bind_some (type_of t) (λ p. Some (of_type p)) g in
    let same : of_type one.0 ≡ k = cc one.2 in
    let stays = compared-none (expr_at (suc n)) mid (operator_at rel_op mid) rest f in
    rw (eat_is-is us o.0 o.1, ← same) (is_type (subst (λ q. Ids token.ColonColon o.0 one.0 q) stays (type-told n o.0 t one.0 mid o.2 one.1)))
asked-sound own n us mid (Some t) (Some x) k rest e f g =
    let o = optional-some (add_of (expr_at n)) us (eat_is us) t mid e in
    let one = bind_some (type_of t) (λ p. target own x.1 >>= typed_within p x.0) g in
    rw (eat_is-is us o.0 o.1) (typed-sound own n o.0 mid t one.0 x.0 x.1 k rest o.2 one.1 (compared-some (expr_at (suc n)) mid x rest (operator_at rel_op mid) refl f) one.2)

constraint-by : (own : Word) (n : ℕ) (ts : List Token) (d : loose.VariableDef) (k : Constraint) (rest : List Token) (r : Defined n ts d rest) (p : Option loose.Name) → r.p ≡ p → constraint own (loose.variable_def (loose.ident r.w) p r.t r.c) ≡ Some k → ConstraintRule own n ts k rest
constraint-by own n ts d k rest r None e f =
    let one = cond_some (owns own r.w) (asked own r.t r.c) f in
    let named = optional-none name_of r.a (eat token.Colon r.a) r.b (r.name ∙ ap (λ q. Ok (q, r.b)) e) in
    rw (r.front, owns-same own r.w one.0, named) (asked-sound own n r.b r.m r.t r.c k rest r.type_ r.compared one.1)
constraint-by own n ts d k rest r (Some p) e f = absurd (cc f)

constraint-sound : (own : Word) (n : ℕ) → Sounds (ConstraintRule own n) (variable_def_of n) (constraint own)
constraint-sound own n ts d k rest e f =
    let r = defined n ts d rest e in
    constraint-by own n ts d k rest r r.p refl (ap (constraint own) r.is ∙ f)

-- ---- the action

abbrev ActionsAt : ℕ → Type 0
ActionsAt n = (ts : List Token) (e : loose.Expr) (u : Uid) (rest : List Token) → expr_at (suc n) ts ≡ Ok (e, rest) → action e ≡ Some u → ActionEntity n ts u rest

abbrev ActionsBelow : ℕ → Type 0
ActionsBelow zero = Unit {0}
ActionsBelow (suc n) = ActionsAt n

action_parens-sound : (n : ℕ) → ActionsBelow n → (us : List Token) (b : loose.Expr) (u : Uid) (rest : List Token) → expr_at n us ≡ Ok (b, mark token.RightParen ∷ rest) → action b ≡ Some u → ActionEntity n (mark token.LeftParen ∷ us) u rest
unfolding expr_at
action_parens-sound zero ih us b u rest e f = absurd (cc e)
action_parens-sound (suc n) ih us b u rest e f = action_in_parens (ih us b u (mark token.RightParen ∷ rest) e f)

action-inside : (n : ℕ) → ActionsBelow n → (ts : List Token) (p q : loose.Primary) (u : Uid) (rest : List Token) → Told (expr_at n) p ts rest → opened p ≡ Some q → primary_action q ≡ Some u → ActionEntity n ts u rest
unfolding inside_parens
action-inside n ih ts (loose.entity r) q u rest d e f =
    let one = bind_some (ref_entity r) (λ v. cond (ends_in_action v.type_name) (Some v) None) (ap (λ o. o >>= primary_action) e ∙ f) in
    let two = cond_some (ends_in_action one.0.type_name) (Some one.0) one.2 in
    let same : one.0 ≡ u = cc two.1 in
    subst (λ v. ActionEntity n ts v rest) same (action_entity (ref-sound ts r one.0 rest d one.1) two.0)
action-inside n ih ts (loose.expr b) q u rest d e f = rw d.1 (action_parens-sound n ih d.0 b u rest d.2 (ap (λ o. o >>= primary_action) e ∙ f))
action-inside n ih ts p q u rest d e f = absurd (cc (ap (λ o. o >>= primary_action) e ∙ f))

action-level : (n : ℕ) → ActionsBelow n → ActionsAt n
action-level n ih ts e u rest f g =
    let one = bind_some (inside_parens e) primary_action g in
    let two = inside-is e one.0 one.1 in
    action-inside n ih ts two.0 one.0 u rest (at-told n ts e two.0 rest f two.1) two.2 one.2

action-sound : (n : ℕ) → ActionsAt n
action-sound zero = action-level zero tt
action-sound (suc n) = action-level (suc n) (action-sound n)

listed-sound : (n : ℕ) → Sounds (ListedAction n) (expr_at n) action
unfolding expr_at
listed-sound zero ts e u rest f g = absurd (cc f)
listed-sound (suc n) ts e u rest f g = action-sound n ts e u rest f g

among-one : (n : ℕ) (ts : List Token) (e : loose.Expr) (us : List Uid) (rest : List Token) → expr_at (suc n) ts ≡ Ok (e, rest) → (action e >>= λ u. Some (u ∷ [])) ≡ Some us → ActionRule n (word token.Action ∷ word token.In ∷ ts) (action_within_any us) rest
among-one n ts e us rest f g =
    let one = bind_some (action e) (λ u. Some (u ∷ [])) g in
    let same : one.0 ∷ [] ≡ us = cc one.2 in
    subst (λ vs. ActionRule n (word token.Action ∷ word token.In ∷ ts) (action_within_any vs) rest) same (in_action (action-sound n ts e one.0 rest f one.1))

among-sound : (n : ℕ) (ts : List Token) (e : loose.Expr) (o : Option loose.Primary) (us : List Uid) (rest : List Token) → expr_at (suc n) ts ≡ Ok (e, rest) → converting.alone e ≡ o → actions_among e o ≡ Some us → ActionRule n (word token.Action ∷ word token.In ∷ ts) (action_within_any us) rest
among-sound n ts e (Some (loose.e_list es)) us rest f g h =
    let t = at-told n ts e (loose.e_list es) rest f (alone-is e (loose.e_list es) g) in
    rw t.2 (in_actions (items-sound token.RightBracket (ListedAction n) (expr_at n) action (listed-sound n) t.0 t.1 us rest t.3 (sym (actions-each t.1) ∙ ap actions t.4 ∙ h)))
among-sound n ts e o us rest f g h = among-one n ts e us rest f h

action_compared-sound : (n : ℕ) (us : List Token) (o : loose.RelOp) (e : loose.Expr) (k : ActionConstraint) (rest : List Token) → Compared (expr_at (suc n)) us (o, e) rest → action_asked (Some ((o, e))) ≡ Some k → ActionRule n (word token.Action ∷ us) k rest
action_compared-sound n us loose.eq e k rest c f =
    let one = bind_some (action e) (λ u. Some (action_equals u)) f in
    let same : action_equals one.0 ≡ k = cc one.2 in
    rw (c.front, rel-eq c.o c.op, ← same) (equals_action (action-sound n c.us e one.0 rest c.read one.1))
action_compared-sound n us loose.in_ e k rest c f =
    let one = bind_some (actions_among e (converting.alone e)) (λ vs. Some (action_within_any vs)) f in
    let same : action_within_any one.0 ≡ k = cc one.2 in
    rw (c.front, rel-in c.o c.op, ← same) (among-sound n c.us e (converting.alone e) one.0 rest c.read refl one.1)
action_compared-sound n us o e k rest c f = absurd (cc f)

action_asked-sound : (n : ℕ) (us : List Token) (c : Option (loose.RelOp × loose.Expr)) (k : ActionConstraint) (rest : List Token) → compared_step (expr_at (suc n)) us (operator_at rel_op us) ≡ Ok (c, rest) → action_asked c ≡ Some k → ActionRule n (word token.Action ∷ us) k rest
action_asked-sound n us None k rest e f =
    let same : any_action ≡ k = cc f in
    rw (compared-none (expr_at (suc n)) us (operator_at rel_op us) rest e, ← same) no_action
action_asked-sound n us (Some x) k rest e f = action_compared-sound n us x.0 x.1 k rest (compared-some (expr_at (suc n)) us x rest (operator_at rel_op us) refl e) f

action-by : (n : ℕ) (ts : List Token) (d : loose.VariableDef) (k : ActionConstraint) (rest : List Token) (r : Defined n ts d rest) (w : Word) (p : Option loose.Name) (t : Option loose.Add) → r.w ≡ w → r.p ≡ p → r.t ≡ t → action_constraint (loose.variable_def (loose.ident w) p t r.c) ≡ Some k → ActionRule n ts k rest
action-by n ts d k rest r token.Action None None e f g h =
    let named = optional-none name_of r.a (eat token.Colon r.a) r.b (r.name ∙ ap (λ q. Ok (q, r.b)) f) in
    let typed = optional-none (add_of (expr_at n)) r.b (eat_is r.b) r.m (r.type_ ∙ ap (λ q. Ok (q, r.m)) g) in
    rw (r.front, e, named, typed) (action_asked-sound n r.m r.c k rest r.compared h)
action-by n ts d k rest r w p t e f g h = absurd (cc h)

action_rule-sound : (n : ℕ) → Sounds (ActionRule n) (variable_def_of n) action_constraint
action_rule-sound n ts d k rest e f =
    let r = defined n ts d rest e in
    action-by n ts d k rest r r.w r.p r.t refl refl refl (ap action_constraint r.is ∙ f)

-- ---- the scope

each-some : {A : Type 0} (xs : List A) → each (λ x. Some x) xs ≡ Some xs
each-some [] = refl
each-some (x ∷ xs) = rw (each-some xs)

defs-sound : (n : ℕ) (ts : List Token) (ds : List loose.VariableDef) (rest : List Token) → items_of token.RightParen (variable_def_of n) ts ≡ Ok (ds, rest) → Items token.RightParen (Given (variable_def_of n)) ts ds rest
defs-sound n ts ds rest e =
    items-sound token.RightParen (Given (variable_def_of n)) (variable_def_of n) (λ x. Some x) (λ us a x q f g. let same : a ≡ x = cc g in f ∙ ap (λ y. Ok (y, q)) same) ts ds ds rest e (each-some ds)

scope-three : (n : ℕ) (ts : List Token) (a b c : loose.VariableDef) (p : Constraint) (q : ActionConstraint) (r : Constraint) (rest : List Token) → Items token.RightParen (Given (variable_def_of n)) ts (a ∷ b ∷ c ∷ []) rest → constraint token.Principal a ≡ Some p → action_constraint b ≡ Some q → constraint token.Resource c ≡ Some r → ScopeRule n ts p q r rest
scope-three n ts a b c p q r rest (an_item t1 d (an_item t2 e (last_item f))) x y z =
    scope p q r t1 t2 (mark token.RightParen ∷ rest) (constraint-sound token.Principal n ts a p (mark token.Comma ∷ t1) d x) (action_rule-sound n t1 b q (mark token.Comma ∷ t2) e y) (constraint-sound token.Resource n t2 c r (mark token.RightParen ∷ rest) f z) closed
scope-three n ts a b c p q r rest (an_item t1 d (an_item t2 e (an_item t3 f no_items))) x y z =
    scope p q r t1 t2 (mark token.Comma ∷ mark token.RightParen ∷ rest) (constraint-sound token.Principal n ts a p (mark token.Comma ∷ t1) d x) (action_rule-sound n t1 b q (mark token.Comma ∷ t2) e y) (constraint-sound token.Resource n t2 c r (mark token.Comma ∷ mark token.RightParen ∷ rest) f z) comma_closed

scope-sound : (n : ℕ) (ts : List Token) (ds : List loose.VariableDef) (s : Constraint × ActionConstraint × Constraint) (rest : List Token) → items_of token.RightParen (variable_def_of n) ts ≡ Ok (ds, rest) → converting.scope_syntax ds ≡ Some s → ScopeRule n ts s.0 s.1 s.2 rest
scope-sound n ts (a ∷ b ∷ c ∷ []) s rest e f =
    let one = bind_some (constraint token.Principal a) (λ x. action_constraint b >>= λ y. constraint token.Resource c >>= λ z. Some ((x, y, z))) f in
    let two = bind_some (action_constraint b) (λ y. constraint token.Resource c >>= λ z. Some ((one.0, y, z))) one.2 in
    let three = bind_some (constraint token.Resource c) (λ z. Some ((one.0, two.0, z))) two.2 in
    let same : ◌≡◌ {A = Constraint × ActionConstraint × Constraint} (one.0, two.0, three.0) s = cc three.2 in
    subst (λ x. ScopeRule n ts x.0 x.1 x.2 rest) same (scope-three n ts a b c one.0 two.0 three.0 rest (defs-sound n ts (a ∷ b ∷ c ∷ []) rest e) one.1 two.1 three.1)
scope-sound n ts ds s rest e f = absurd (cc f)

-- ---- clauses

clause_by-sound : (names : Names) (n : ℕ) (w : Word) (us : List Token) (x t : Tree) (rest : List Token) → Within names n us x (mark token.RightBrace ∷ rest) → clause_by w x ≡ Some t → Clause (Within names n) (word w ∷ mark token.LeftBrace ∷ us) t rest
clause_by-sound names n token.When us x t rest d e = let same : x ≡ t = cc e in subst (λ y. Clause (Within names n) (word token.When ∷ mark token.LeftBrace ∷ us) y rest) same (when_is d)
clause_by-sound names n token.Unless us x t rest d e = let same : unary tree.Not x ≡ t = cc e in subst (λ y. Clause (Within names n) (word token.Unless ∷ mark token.LeftBrace ∷ us) y rest) same (unless_is d)
clause_by-sound names n w us x t rest d e = absurd (cc e)

braced-sound : (names : Names) (n : ℕ) (w : Word) (us : List Token) (o : Option (List Token)) (c : loose.Cond) (t : Tree) (rest : List Token) → braced (expr_at n) w us o ≡ Ok (c, rest) → clause names c ≡ Some t → Clause (Within names n) (word w ∷ mark token.LeftBrace ∷ us) t rest
braced-sound names n w us (Some vs) c t rest e f = absurd (cc (ap (clause names) (ok_pair e).0 ∙ f))
braced-sound names n w us None c t rest e f =
    let one = bind_ok (expr_at n us) (λ x. needed (eat token.RightBrace x.1) >> λ qs. Ok (loose.cond (loose.ident w) (Some x.0), qs)) e in
    let two = bind_ok (needed (eat token.RightBrace one.0.1)) (λ qs. Ok (loose.cond (loose.ident w) (Some one.0.0), qs)) one.2 in
    let v = ok_pair two.2 in
    let three = bind_some (expr_tree names one.0.0) (clause_by w) (ap (clause names) v.0 ∙ f) in
    let at : one.0.1 ≡ mark token.RightBrace ∷ rest = eat-is token.RightBrace one.0.1 two.0 (needed_ok (eat token.RightBrace one.0.1) two.1) ∙ ap (λ q. mark token.RightBrace ∷ q) v.1 in
    clause_by-sound names n w us three.0 t rest (within-sound names n us one.0.0 three.0 (mark token.RightBrace ∷ rest) (one.1 ∙ ap (λ q. Ok (one.0.0, q)) at) three.1) three.2

clause-sound : (names : Names) (n : ℕ) → Sounds (Clause (Within names n)) (cond_of n) (clause names)
unfolding cond_of
clause-sound names n ts c t rest e f =
    let one = bind_ok (needed (word_read ts)) (λ w. needed (eat token.LeftBrace w.1) >> λ us. braced (expr_at n) w.0 us (eat token.RightBrace us)) e in
    let two = bind_ok (needed (eat token.LeftBrace one.0.1)) (λ us. braced (expr_at n) one.0.0 us (eat token.RightBrace us)) one.2 in
    let at : ts ≡ word one.0.0 ∷ mark token.LeftBrace ∷ two.0 = word_read-is ts one.0.1 one.0.0 (needed_ok (word_read ts) one.1) ∙ ap (λ q. word one.0.0 ∷ q) (eat-is token.LeftBrace one.0.1 two.0 (needed_ok (eat token.LeftBrace one.0.1) two.1)) in
    rw at (braced-sound names n one.0.0 two.0 (eat token.RightBrace two.0) c t rest two.2 f)

-- ---- policies

policy_parts-sound : (names : Names) (n : ℕ) (ts : List Token) (q : loose.Policy) (x : Policy) (rest : List Token) (k : Parts n ts q rest) → policy_syntax names (loose.policy k.notes (loose.ident k.w) k.defs k.conds) ≡ Some x → PolicyRule names n ts x rest
unfolding policy_syntax
policy_parts-sound names n ts q x rest k e =
    let one = bind_some (each converting.annotation_syntax k.notes >>= distinct_keys) (λ notes. effect_of k.w >>= λ f. converting.scope_syntax k.defs >>= λ s. each (clause names) k.conds >>= λ cs. Some (record { effect = f; annotations = by_key notes; principal = s.0; action = s.1; resource = s.2; body = body_of cs })) e in
    let two = bind_some (effect_of k.w) (λ f. converting.scope_syntax k.defs >>= λ s. each (clause names) k.conds >>= λ cs. Some (record { effect = f; annotations = by_key one.0; principal = s.0; action = s.1; resource = s.2; body = body_of cs })) one.2 in
    let three = bind_some (converting.scope_syntax k.defs) (λ s. each (clause names) k.conds >>= λ cs. Some (record { effect = two.0; annotations = by_key one.0; principal = s.0; action = s.1; resource = s.2; body = body_of cs })) two.2 in
    let four = bind_some (each (clause names) k.conds) (λ cs. Some (record { effect = two.0; annotations = by_key one.0; principal = three.0.0; action = three.0.1; resource = three.0.2; body = body_of cs })) three.2 in
    let five = bind_some (each converting.annotation_syntax k.notes) distinct_keys one.1 in
    let six = cond_some (are_distinct (keys five.0)) (Some five.0) five.2 in
    let same : five.0 ≡ one.0 = cc six.1 in
    let made : record { effect = two.0; annotations = by_key one.0; principal = three.0.0; action = three.0.1; resource = three.0.2; body = body_of four.0 } ≡ x = cc four.2 in
    let notes = subst (λ ys. HeadRule ts ys two.0 k.a) same (head five.0 k.w (each-sound begins_annotation Annotation annotation_of converting.annotation_syntax annotation-sound ts k.notes five.0 (word k.w ∷ mark token.LeftParen ∷ k.a) k.annotations five.1) six.0 two.1) in
    let clauses = each-sound begins_cond (Clause (Within names (suc n))) (cond_of (suc n)) (clause names) (clause-sound names (suc n)) k.b k.conds four.0 (mark token.Semicolon ∷ rest) k.clauses four.1 in
    subst (λ y. PolicyRule names n ts y rest) made (policy one.0 two.0 three.0.0 three.0.1 three.0.2 four.0 k.a k.b notes (scope-sound n k.a k.defs three.0 k.b k.scope three.1) clauses)

pub policy-sound : (names : Names) (n : ℕ) → Sounds (PolicyRule names n) (policy_of n) (policy_syntax names)
policy-sound names n ts q x rest e f = let k = parts n ts q rest e in policy_parts-sound names n ts q x rest k (ap (policy_syntax names) k.is ∙ f)

pub policies-sound : (names : Names) (n : ℕ) (ts : List Token) (qs : List loose.Policy) (ps : List Policy) (rest : List Token) → each_of is_more (policy_of n) ts ≡ Ok (qs, rest) → each (policy_syntax names) qs ≡ Some ps → Each (PolicyWithin names (suc n)) ts ps rest
policies-sound names n ts qs ps rest e f = each-sound is_more (PolicyWithin names (suc n)) (policy_of n) (policy_syntax names) (policy-sound names n) ts qs ps rest e f
