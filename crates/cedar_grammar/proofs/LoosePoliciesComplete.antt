-- What the strict grammar of policies has, the loose reading gives as a tree that converts to it.
use Rattle.std.proofs.Common.{◌≡◌, ℕ, zero, suc, ◌<◌, true, false, List, [], ◌∷◌, length, Option, Some, None, Ok, refl, sym, ap, ◌∙◌, arith}
use Rattle.cedar_language.specs.Uid.{Text, Uid}
use Rattle.cedar_language.specs.Tree.{Tree}
use Rattle.cedar_grammar.specs.Token as token
use Rattle.cedar_grammar.specs.Token.{Word, Mark, Token, word, number, text, slot, mark}
use Rattle.cedar_grammar.specs.Names.{Names}
use Rattle.cedar_grammar.specs.Build.{Keyed}
use Rattle.cedar_grammar.specs.Grammar.{Rule, one_id, more_ids, EntityRule, entity, Items, no_items, last_item, an_item, Within}
use Rattle.cedar_grammar.specs.Policy.{Target, Constraint, ActionConstraint, Policy}
use Rattle.cedar_grammar.specs.Policies.{Annotation, key_alone, key_value, Each, TargetRule, entity_target, slot_target, in_parens, ConstraintRule, no_constraint, equals_target, in_target, is_type, is_type_in, ActionEntity, action_entity, action_in_parens, ListedAction, ActionRule, no_action, equals_action, in_action, in_actions, closed, comma_closed, Clause, when_is, unless_is, head, ScopeRule, scope, PolicyRule, policy, PolicyWithin}
use Rattle.cedar_grammar.specs.Steps.{is_mark, eat, begins_annotation, is_more}
use Rattle.cedar_grammar.proofs.Eats.{within-eats, within-begins, front-eat, begins_expr, ids-begin}
use Rattle.cedar_grammar.proofs.PoliciesEat.{annotation-eats, listed-eats, clause-eats, policy_within-eats}
use Rattle.cedar_grammar.specs.Loose as loose
use Rattle.cedar_grammar.specs.Loose.{exprs}
use Rattle.cedar_grammar.specs.LooseReading.{Reader, each_of, items_of, operator_at, rel_op, primary_of, slot_of, expr_at, annotation_of, eat_is, variable_def_of, cond_of, begins_cond, policy_of}
use Rattle.cedar_grammar.specs.Converting as converting
use Rattle.cedar_grammar.specs.Converting.{each, expr_tree, inside_parens, target, is_own, type_of, asked, constraint, action, actions, actions_among, action_constraint, clause, policy_syntax, owns}
use Rattle.cedar_grammar.proofs.Basics.{Below, below-more}
use Rattle.cedar_grammar.proofs.Loops.{Reads, Completes, items-complete, each-complete}
use Rattle.cedar_grammar.proofs.Equations.{actions-each}
use Rattle.cedar_grammar.proofs.Lone.{lone, lone_sum, Plain, plainly, lone-read}
use Rattle.cedar_grammar.proofs.LooseComplete.{front-plain, entity-complete, path-sum, within-complete}
use Rattle.cedar_grammar.proofs.PolicyRests.{defined, variable_def-eats}

-- ---- annotations

abbrev NoParen : List Token → Type 0
NoParen ts = eat token.LeftParen ts ≡ None

annotation-complete : (ts : List Token) (x : Keyed Text) (rest : List Token) → Annotation ts x rest → NoParen rest → Reads annotation_of converting.annotation_syntax ts x rest
unfolding annotation_of
annotation-complete ts x rest (key_alone {w}) h = (loose.annotation (loose.ident w) None, rw h, refl)
annotation-complete ts x rest (key_value {w} {raw} e) h = (loose.annotation (loose.ident w) (Some (loose.string raw)), refl, rw e)

annotation-starts : (ts : List Token) (x : Keyed Text) (rest : List Token) → Annotation ts x rest → begins_annotation ts ≡ true
annotation-starts ts x rest key_alone = refl
annotation-starts ts x rest (key_value e) = refl

annotation-follows : (ts : List Token) (x : Keyed Text) (rest : List Token) → Annotation ts x rest → NoParen ts
annotation-follows ts x rest key_alone = refl
annotation-follows ts x rest (key_value e) = refl

annotations-complete : (ts : List Token) (xs : List (Keyed Text)) (rest : List Token) → Each Annotation ts xs rest → begins_annotation rest ≡ false → NoParen rest → Reads (each_of begins_annotation annotation_of) (each converting.annotation_syntax) ts xs rest
annotations-complete = each-complete begins_annotation Annotation annotation_of converting.annotation_syntax NoParen annotation-complete annotation-eats annotation-starts annotation-follows

-- ---- what a scope compares with

entity-plain : (ts : List Token) (u : Uid) (rest : List Token) → EntityRule ts u rest → Plain ts
entity-plain ts u rest (entity p raw d e) = front-plain ts (ids-begin token.ColonColon ts p (mark token.ColonColon ∷ text raw ∷ rest) d)

-- an expression that is a primary, at a level
at-lone : (n : ℕ) (ts : List Token) (p : loose.Primary) (rest : List Token) → Plain ts → primary_of (expr_at n) ts ≡ Ok (p, rest) → Below 1 rest → expr_at (suc n) ts ≡ Ok (lone p, rest)
unfolding expr_at
at-lone n ts p rest q e h = lone-read (expr_at n) ts p rest q e h

own-slot : (own : Word) → owns own own ≡ true → is_own own (slot_of own) ≡ true
own-slot token.Principal e = refl
own-slot token.Resource e = refl
own-slot own e = absurd (cc e)

paren-read : (n : ℕ) (us : List Token) (b : loose.Expr) (rest : List Token) → expr_at n us ≡ Ok (b, mark token.RightParen ∷ rest) → primary_of (expr_at n) (mark token.LeftParen ∷ us) ≡ Ok (loose.expr b, rest)
unfolding primary_of
paren-read n us b rest e = rw e

slot-read : (n : ℕ) (w : Word) (rest : List Token) → primary_of (expr_at n) (slot w ∷ rest) ≡ Ok (loose.slot (slot_of w), rest)
unfolding primary_of
slot-read n w rest = refl

target-complete : (own : Word) → owns own own ≡ true → (n : ℕ) (ts : List Token) (e : Target) (rest : List Token) → TargetRule own n ts e rest → Below 1 rest → Reads (expr_at (suc n)) (target own) ts e rest
unfolding inside_parens
target-complete own o n ts e rest (entity_target {u} d) h =
    let r = entity-complete (expr_at n) ts u rest d in
    (lone (loose.entity r.0), at-lone n ts (loose.entity r.0) rest (entity-plain ts u rest d) r.1 h, rw r.2)
target-complete own o n ts e rest slot_target h =
    (lone (loose.slot (slot_of own)), at-lone n ts (loose.slot (slot_of own)) rest (plainly (slot own) rest refl) (slot-read n own rest) h, rw (own-slot own o))
target-complete own o (suc n) ts e rest (in_parens {ts = us} d) h =
    let low : 0 < 1 = omega arith in
    let r = target-complete own o n us e (mark token.RightParen ∷ rest) d low in
    (lone (loose.expr r.0), at-lone (suc n) ts (loose.expr r.0) rest (plainly (mark token.LeftParen) us refl) (paren-read (suc n) us r.0 rest r.1) h, r.2)

-- a comma or a parenthesis is next
abbrev Stopped : List Token → Type 0
Stopped (mark token.Comma ∷ ts) = Unit {0}
Stopped (mark token.RightParen ∷ ts) = Unit {0}
Stopped ts = ⊥

-- nothing more of a definition is next
record Ended (ts : List Token) : Type 0 where
  low : Below 1 ts
  no_colon : eat token.Colon ts ≡ None
  no_is : eat_is ts ≡ None
  no_operator : operator_at rel_op ts ≡ None

ended : (ts : List Token) → Stopped ts → Ended ts
ended [] h = absurd h
ended (mark token.Comma ∷ ts) h = record { low = omega arith; no_colon = refl; no_is = refl; no_operator = refl }
ended (mark token.RightParen ∷ ts) h = record { low = omega arith; no_colon = refl; no_is = refl; no_operator = refl }
ended (t ∷ ts) h = absurd h

constraint-complete : (own : Word) → owns own own ≡ true → (n : ℕ) (ts : List Token) (k : Constraint) (rest : List Token) → ConstraintRule own n ts k rest → Stopped rest → Reads (variable_def_of n) (constraint own) ts k rest
unfolding variable_def_of
constraint-complete own o n ts k rest no_constraint h =
    let e = ended rest h in
    (loose.variable_def (loose.ident own) None None None, rw (e.no_colon, e.no_is, e.no_operator), rw o)
constraint-complete own o n ts k rest (equals_target {e = x} {ts = us} d) h =
    let r = target-complete own o n us x rest d (ended rest h).low in
    (loose.variable_def (loose.ident own) None None (Some (loose.eq, r.0)), rw r.1, rw (o, r.2))
constraint-complete own o n ts k rest (in_target {e = x} {ts = us} d) h =
    let r = target-complete own o n us x rest d (ended rest h).low in
    (loose.variable_def (loose.ident own) None None (Some (loose.in_, r.0)), rw r.1, rw (o, r.2))
constraint-complete own o n ts k rest (is_type {p} {ts = us} d) h =
    let e = ended rest h in
    let t = path-sum (expr_at n) us p rest d (below-more 1 4 (omega arith) rest e.low) in
    (loose.variable_def (loose.ident own) None (Some (lone_sum (loose.member (loose.named t.0) loose.no_accesses))) None, rw (t.1, e.no_operator), rw (o, t.2))
constraint-complete own o n ts k rest (is_type_in {p} {e = x} {ts = us} mid d f) h =
    let low : 3 < 4 = omega arith in
    let t = path-sum (expr_at n) us p (word token.In ∷ mid) d low in
    let r = target-complete own o n mid x rest f (ended rest h).low in
    (loose.variable_def (loose.ident own) None (Some (lone_sum (loose.member (loose.named t.0) loose.no_accesses))) (Some (loose.in_, r.0)), rw (t.1, r.1), rw (o, t.2, r.2))

-- ---- actions

-- an action is read alone, and no list is
record Acts (n : ℕ) (ts : List Token) (u : Uid) (rest : List Token) : Type 0 where
  e : loose.Expr
  read : expr_at (suc n) ts ≡ Ok (e, rest)
  is : action e ≡ Some u
  one : actions_among e (converting.alone e) ≡ Some (u ∷ [])

action-complete : (n : ℕ) (ts : List Token) (u : Uid) (rest : List Token) → ActionEntity n ts u rest → Below 1 rest → Acts n ts u rest
unfolding inside_parens
action-complete n ts u rest (action_entity d f) h =
    let r = entity-complete (expr_at n) ts u rest d in
    record { e = lone (loose.entity r.0); read = at-lone n ts (loose.entity r.0) rest (entity-plain ts u rest d) r.1 h; is = rw (r.2, f); one = rw (r.2, f) }
action-complete (suc n) ts u rest (action_in_parens {ts = us} d) h =
    let low : 0 < 1 = omega arith in
    let r = action-complete n us u (mark token.RightParen ∷ rest) d low in
    record { e = lone (loose.expr r.e); read = at-lone (suc n) ts (loose.expr r.e) rest (plainly (mark token.LeftParen) us refl) (paren-read (suc n) us r.e rest r.read) h; is = r.is; one = rw r.is }

listed-complete : (n : ℕ) → Completes 1 (ListedAction n) (expr_at n) action
listed-complete zero ts u rest d h = absurd d
listed-complete (suc n) ts u rest d h = let r = action-complete n ts u rest d h in (r.e, r.read, r.is)

action-front : (n : ℕ) (ts : List Token) (u : Uid) (rest : List Token) → ActionEntity n ts u rest → eat token.RightBracket ts ≡ None
action-front n ts u rest (action_entity (entity p raw (one_id e) f) g) = refl
action-front n ts u rest (action_entity (entity p raw (more_ids e d) f) g) = refl
action-front n ts u rest (action_in_parens d) = refl

listed-front : (n : ℕ) (ts : List Token) (u : Uid) (rest : List Token) → ListedAction n ts u rest → eat token.RightBracket ts ≡ None
listed-front zero ts u rest d = absurd d
listed-front (suc n) ts u rest d = action-front n ts u rest d

bracket-read : (n : ℕ) (us : List Token) (es : List loose.Expr) (rest : List Token) → items_of token.RightBracket (expr_at n) us ≡ Ok (es, rest) → primary_of (expr_at n) (mark token.LeftBracket ∷ us) ≡ Ok (loose.e_list (exprs es), rest)
unfolding primary_of
bracket-read n us es rest e = rw e

action_rule-complete : (n : ℕ) (ts : List Token) (a : ActionConstraint) (rest : List Token) → ActionRule n ts a rest → Stopped rest → Reads (variable_def_of n) action_constraint ts a rest
unfolding variable_def_of
action_rule-complete n ts a rest no_action h =
    let e = ended rest h in
    (loose.variable_def (loose.ident token.Action) None None None, rw (e.no_colon, e.no_is, e.no_operator), refl)
action_rule-complete n ts a rest (equals_action {u} {ts = us} d) h =
    let r = action-complete n us u rest d (ended rest h).low in
    (loose.variable_def (loose.ident token.Action) None None (Some (loose.eq, r.e)), rw r.read, rw r.is)
action_rule-complete n ts a rest (in_action {u} {ts = us} d) h =
    let r = action-complete n us u rest d (ended rest h).low in
    (loose.variable_def (loose.ident token.Action) None None (Some (loose.in_, r.e)), rw r.read, rw r.one)
action_rule-complete n ts a rest (in_actions {us = vs} {ts = us} its) h =
    let r = items-complete token.RightBracket (ListedAction n) (expr_at n) action (listed-complete n) (listed-eats n) (listed-front n) refl refl us vs rest its in
    let x = at-lone n (mark token.LeftBracket ∷ us) (loose.e_list (exprs r.0)) rest (plainly (mark token.LeftBracket) us refl) (bracket-read n us r.0 rest r.1) (ended rest h).low in
    (loose.variable_def (loose.ident token.Action) None None (Some (loose.in_, lone (loose.e_list (exprs r.0)))), rw x, rw (actions-each r.0, r.2))

-- ---- the scope

-- what the reader gives, as a rule
abbrev pub Given : {A : Type 0} → Reader A → Rule A
Given rd ts x rest = rd ts ≡ Ok (x, rest)

each-same : {A : Type 0} (xs ys : List A) → each (λ x. Some x) xs ≡ Some ys → xs ≡ ys
each-same xs ys e = let same : ◌≡◌ {A = Option (List _)} (Some xs) (Some ys) = sym (all xs) ∙ e in cc same
  where
    all : {A : Type 0} (xs : List A) → each (λ x. Some x) xs ≡ Some xs
    all [] = refl
    all (x ∷ xs) = rw (all xs)

def-front : (n : ℕ) (ts : List Token) (d : loose.VariableDef) (rest : List Token) → Given (variable_def_of n) ts d rest → eat token.RightParen ts ≡ None
def-front n ts d rest e = let k = defined n ts d rest e in ap (eat token.RightParen) k.front

defs-complete : (n : ℕ) (ts : List Token) (ds : List loose.VariableDef) (rest : List Token) → Items token.RightParen (Given (variable_def_of n)) ts ds rest → items_of token.RightParen (variable_def_of n) ts ≡ Ok (ds, rest)
defs-complete n ts ds rest its =
    let r = items-complete token.RightParen (Given (variable_def_of n)) (variable_def_of n) (λ x. Some x) (λ us x q d h. (x, d, refl)) (variable_def-eats n) (def-front n) refl refl ts ds rest its in
    r.1 ∙ ap (λ xs. Ok (xs, rest)) (each-same r.0 ds r.2)

scope-complete : (n : ℕ) (ts : List Token) (p : Constraint) (a : ActionConstraint) (r : Constraint) (rest : List Token) → ScopeRule n ts p a r rest → Reads (items_of token.RightParen (variable_def_of n)) converting.scope_syntax ts ((p, a, r)) rest
scope-complete n ts p a r rest (scope q b s t1 t2 t3 h i j closed) =
    let x = constraint-complete token.Principal refl n ts p (mark token.Comma ∷ t1) h tt in
    let y = action_rule-complete n t1 a (mark token.Comma ∷ t2) i tt in
    let z = constraint-complete token.Resource refl n t2 r (mark token.RightParen ∷ rest) j tt in
    (x.0 ∷ y.0 ∷ z.0 ∷ [], defs-complete n ts (x.0 ∷ y.0 ∷ z.0 ∷ []) rest (an_item t1 x.1 (an_item t2 y.1 (last_item z.1))), rw (x.2, y.2, z.2))
scope-complete n ts p a r rest (scope q b s t1 t2 t3 h i j comma_closed) =
    let x = constraint-complete token.Principal refl n ts p (mark token.Comma ∷ t1) h tt in
    let y = action_rule-complete n t1 a (mark token.Comma ∷ t2) i tt in
    let z = constraint-complete token.Resource refl n t2 r (mark token.Comma ∷ mark token.RightParen ∷ rest) j tt in
    (x.0 ∷ y.0 ∷ z.0 ∷ [], defs-complete n ts (x.0 ∷ y.0 ∷ z.0 ∷ []) rest (an_item t1 x.1 (an_item t2 y.1 (an_item (mark token.RightParen ∷ rest) z.1 no_items))), rw (x.2, y.2, z.2))

-- ---- clauses

expr-brace : (t : Token) → begins_expr t ≡ true → is_mark token.RightBrace t ≡ false
expr-brace (mark token.RightBrace) h = absurd (cc h)
expr-brace t h = refl

no-brace : (names : Names) (n : ℕ) (ts : List Token) (t : Tree) (rest : List Token) → Within names n ts t rest → eat token.RightBrace ts ≡ None
no-brace names n ts t rest d = front-eat begins_expr token.RightBrace expr-brace ts (within-begins names n ts t rest d)

clause-complete : (names : Names) (n : ℕ) (ts : List Token) (t : Tree) (rest : List Token) → Clause (Within names n) ts t rest → Unit {0} → Reads (cond_of n) (clause names) ts t rest
unfolding cond_of
clause-complete names n ts t rest (when_is {ts = us} d) h =
    let low : 0 < 1 = omega arith in
    let r = within-complete names n us t (mark token.RightBrace ∷ rest) d low in
    (loose.cond (loose.ident token.When) (Some r.0), rw (no-brace names n us t (mark token.RightBrace ∷ rest) d, r.1), rw r.2)
clause-complete names n ts t rest (unless_is {t = x} {ts = us} d) h =
    let low : 0 < 1 = omega arith in
    let r = within-complete names n us x (mark token.RightBrace ∷ rest) d low in
    (loose.cond (loose.ident token.Unless) (Some r.0), rw (no-brace names n us x (mark token.RightBrace ∷ rest) d, r.1), rw r.2)

clause-starts : (expr : Rule Tree) (ts : List Token) (t : Tree) (rest : List Token) → Clause expr ts t rest → begins_cond ts ≡ true
clause-starts expr ts t rest (when_is d) = refl
clause-starts expr ts t rest (unless_is d) = refl

clauses-complete : (names : Names) (n : ℕ) (ts : List Token) (cs : List Tree) (rest : List Token) → Each (Clause (Within names n)) ts cs rest → begins_cond rest ≡ false → Reads (each_of begins_cond (cond_of n)) (each (clause names)) ts cs rest
clauses-complete names n ts cs rest d h =
    each-complete begins_cond (Clause (Within names n)) (cond_of n) (clause names) (λ us. Unit {0}) (clause-complete names n) (clause-eats (Within names n) (within-eats names n)) (clause-starts (Within names n)) (λ us x r e. tt) ts cs rest d h tt

-- ---- policies

pub policy-complete : (names : Names) (n : ℕ) (ts : List Token) (x : Policy) (rest : List Token) → PolicyRule names n ts x rest → Unit {0} → Reads (policy_of n) (policy_syntax names) ts x rest
unfolding policy_of policy_syntax
policy-complete names n ts x rest (policy xs e p a r cs t1 t2 (head ys w d f g) s c) h =
    let one = annotations-complete ts xs (word w ∷ mark token.LeftParen ∷ t1) d refl refl in
    let two = scope-complete n t1 p a r t2 s in
    let three = clauses-complete names (suc n) t2 cs (mark token.Semicolon ∷ rest) c refl in
    (loose.policy one.0 (loose.ident w) two.0 three.0, rw (one.1, two.1, three.1), rw (one.2, f, g, two.2, three.2))

has-more : (ts : List Token) (k : ℕ) → k < length ts → is_more ts ≡ true
has-more [] k h = absurd (omega arith)
has-more (t ∷ ts) k h = refl

pub policies-complete : (names : Names) (n : ℕ) (ts : List Token) (ps : List Policy) → Each (PolicyWithin names (suc n)) ts ps [] → Reads (each_of is_more (policy_of n)) (each (policy_syntax names)) ts ps []
policies-complete names n ts ps d =
    each-complete is_more (PolicyWithin names (suc n)) (policy_of n) (policy_syntax names) (λ us. Unit {0}) (policy-complete names n) (policy_within-eats names (suc n)) (λ us x rest e. has-more us (length rest) (policy_within-eats names (suc n) us x rest e)) (λ us x rest e. tt) ts ps [] d refl tt
