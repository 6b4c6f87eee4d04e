-- Every rule of policies takes a token.
use Rattle.std.proofs.Common.{ℕ, zero, suc, ◌<◌, ◌≤◌, List, ◌∷◌, length, arith}
use Rattle.cedar_language.specs.Uid.{Text}
use Rattle.cedar_language.specs.Tree.{Tree}
use Rattle.cedar_grammar.specs.Token as token
use Rattle.cedar_grammar.specs.Token.{Word, Token, word, mark}
use Rattle.cedar_grammar.specs.Names.{Names}
use Rattle.cedar_grammar.specs.Build.{Keyed}
use Rattle.cedar_grammar.specs.Grammar.{Rule, Within}
use Rattle.cedar_grammar.specs.Policy.{Effect, Constraint, ActionConstraint}
use Rattle.cedar_grammar.specs.Policies.{Annotation, key_alone, key_value, Each, no_more, one_more, TargetRule, entity_target, slot_target, in_parens, ConstraintRule, no_constraint, equals_target, in_target, is_type, is_type_in, ActionEntity, action_entity, action_in_parens, ListedAction, ActionRule, no_action, equals_action, in_action, in_actions, ScopeEnd, closed, comma_closed, Clause, when_is, unless_is, HeadRule, head, ScopeRule, scope, PolicyRule, policy, PolicyWithin}
use Rattle.cedar_grammar.proofs.Eats.{Eats, entity-eats, ids-eats, items-eats, within-eats}

-- ---- annotations

each-eats : {A : Type 0} (item : Rule A) → Eats item → (ts : List Token) (xs : List A) (rest : List Token) → Each item ts xs rest → length rest ≤ length ts
each-eats item eats ts xs rest no_more = omega arith
each-eats item eats ts xs rest (one_more {x} {xs = ys} mid d more) =
    let one = eats ts x mid d in
    let two = each-eats item eats mid ys rest more in omega arith

pub annotation-eats : Eats Annotation
annotation-eats ts x rest key_alone = omega arith
annotation-eats ts x rest (key_value e) = omega arith

-- ---- the scope

target-eats : (own : Word) (n : ℕ) → Eats (TargetRule own n)
target-eats own n ts e rest (entity_target {u} d) = entity-eats ts u rest d
target-eats own n ts e rest slot_target = omega arith
target-eats own n ts e rest (in_parens {n = k} {ts = us} d) = let one = target-eats own k us e (mark token.RightParen ∷ rest) d in omega arith

constraint-eats : (own : Word) (n : ℕ) → Eats (ConstraintRule own n)
constraint-eats own n ts k rest no_constraint = omega arith
constraint-eats own n ts k rest (equals_target {e} {ts = us} d) = let one = target-eats own n us e rest d in omega arith
constraint-eats own n ts k rest (in_target {e} {ts = us} d) = let one = target-eats own n us e rest d in omega arith
constraint-eats own n ts k rest (is_type {p} {ts = us} d) = let one = ids-eats token.ColonColon us p rest d in omega arith
constraint-eats own n ts k rest (is_type_in {p} {e} {ts = us} mid d f) =
    let one = ids-eats token.ColonColon us p (word token.In ∷ mid) d in
    let two = target-eats own n mid e rest f in omega arith

action-eats : (n : ℕ) → Eats (ActionEntity n)
action-eats n ts u rest (action_entity d e) = entity-eats ts u rest d
action-eats n ts u rest (action_in_parens {n = k} {ts = us} d) = let one = action-eats k us u (mark token.RightParen ∷ rest) d in omega arith

pub listed-eats : (n : ℕ) → Eats (ListedAction n)
listed-eats zero ts u rest d = absurd d
listed-eats (suc n) ts u rest d = action-eats n ts u rest d

action_rule-eats : (n : ℕ) → Eats (ActionRule n)
action_rule-eats n ts a rest no_action = omega arith
action_rule-eats n ts a rest (equals_action {u} {ts = us} d) = let one = action-eats n us u rest d in omega arith
action_rule-eats n ts a rest (in_action {u} {ts = us} d) = let one = action-eats n us u rest d in omega arith
action_rule-eats n ts a rest (in_actions {us = vs} {ts = us} its) = let one = items-eats token.RightBracket (ListedAction n) (listed-eats n) us vs rest its in omega arith

scope-eats : (ts rest : List Token) → ScopeEnd ts rest → length rest < length ts
scope-eats ts rest closed = omega arith
scope-eats ts rest comma_closed = omega arith

scope_of-eats : (n : ℕ) (ts : List Token) (p : Constraint) (a : ActionConstraint) (r : Constraint) (rest : List Token) → ScopeRule n ts p a r rest → length rest < length ts
scope_of-eats n ts p a r rest (scope q b s t1 t2 t3 h i j k) =
    let two = constraint-eats token.Principal n ts p (mark token.Comma ∷ t1) h in
    let three = action_rule-eats n t1 a (mark token.Comma ∷ t2) i in
    let four = constraint-eats token.Resource n t2 r t3 j in
    let five = scope-eats t3 rest k in omega arith

-- ---- clauses

pub clause-eats : (expr : Rule Tree) → Eats expr → Eats (Clause expr)
clause-eats expr eats ts t rest (when_is {ts = us} d) = let one = eats us t (mark token.RightBrace ∷ rest) d in omega arith
clause-eats expr eats ts t rest (unless_is {t = x} {ts = us} d) = let one = eats us x (mark token.RightBrace ∷ rest) d in omega arith

-- ---- policies

head-eats : (ts : List Token) (xs : List (Keyed Text)) (e : Effect) (rest : List Token) → HeadRule ts xs e rest → length rest < length ts
head-eats ts xs e rest (head ys w d f g) = let one = each-eats Annotation annotation-eats ts xs (word w ∷ mark token.LeftParen ∷ rest) d in omega arith

policy-eats : (names : Names) (n : ℕ) → Eats (PolicyRule names n)
policy-eats names n ts x rest (policy xs e p a r cs t1 t2 h s d) =
    let one = head-eats ts xs e t1 h in
    let two = scope_of-eats n t1 p a r t2 s in
    let six = each-eats (Clause (Within names (suc n))) (clause-eats (Within names (suc n)) (within-eats names (suc n))) t2 cs (mark token.Semicolon ∷ rest) d in omega arith

pub policy_within-eats : (names : Names) (n : ℕ) → Eats (PolicyWithin names n)
policy_within-eats names zero ts x rest d = absurd d
policy_within-eats names (suc n) ts x rest d = policy-eats names n ts x rest d
