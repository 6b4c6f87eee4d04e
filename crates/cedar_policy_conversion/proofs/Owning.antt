-- The words of the variables of a scope.
use Rattle.std.proofs.Common.{◌≡◌, Bool, true, false, Option, Some, None, refl, sym, ap, ◌∙◌}
use Rattle.std.specs.Prelude.{cond}
use Rattle.cedar_language.specs.Tree as tree
use Rattle.cedar_language.specs.Tree.{Variable}
use Rattle.cedar_grammar.specs.Token as token
use Rattle.cedar_grammar.specs.Token.{Word}
use Rattle.cedar_grammar.specs.Names.{variable_of}
use Rattle.cedar_grammar.specs.Policy as policy
use Rattle.cedar_grammar.specs.Steps.{◌>>=◌}
use Rattle.cedar_grammar.specs.Loose as loose
use Rattle.cedar_grammar.specs.Converting.{is_own, asked, constraint, action_asked, action_constraint, owns}
use Rattle.cedar_cst.specs.Slots.{own_slot}
use Rattle.cedar_policy_parts.specs.Asked.{variable_asked}
use Rattle.cedar_policy_parts.specs.declared.constraints.PrincipalOrResource.{PrincipalOrResource}
use Rattle.cedar_policy_parts.specs.declared.constraints.PrincipalOrResource.TheVariants.{Principal, Resource}
use Rattle.cedar_conversion.specs.Words.{ident_variable}
use Rattle.cedar_policy_conversion.specs.Own.{own_word, asked_of, without}

-- ---- slots

pub own_slot_is : (v : PrincipalOrResource) (s : loose.Slot) → own_slot (variable_asked v) ≡ Some s → is_own (own_word v) s ≡ true
own_slot_is Principal loose.missing_slot h = cc
own_slot_is Principal loose.principal_slot h = refl
own_slot_is Principal loose.resource_slot h = cc
own_slot_is Principal (loose.other_slot t) h = cc
own_slot_is Resource loose.missing_slot h = cc
own_slot_is Resource loose.principal_slot h = cc
own_slot_is Resource loose.resource_slot h = refl
own_slot_is Resource (loose.other_slot t) h = cc

pub own_slot_not : (v : PrincipalOrResource) (s : loose.Slot) → (own_slot (variable_asked v) ≡ Some s → ⊥) → is_own (own_word v) s ≡ false
own_slot_not Principal loose.missing_slot h = refl
own_slot_not Principal loose.principal_slot h = absurd (h refl)
own_slot_not Principal loose.resource_slot h = refl
own_slot_not Principal (loose.other_slot t) h = refl
own_slot_not Resource loose.missing_slot h = refl
own_slot_not Resource loose.principal_slot h = refl
own_slot_not Resource loose.resource_slot h = absurd (h refl)
own_slot_not Resource (loose.other_slot t) h = refl

-- ---- words

abbrev names_own : PrincipalOrResource → Word → Type 0
names_own v w = variable_of w ≡ Some (variable_asked v)

owns_it : (v : PrincipalOrResource) (w : Word) → names_own v w → owns (own_word v) w ≡ true
owns_it Principal token.True h = cc
owns_it Principal token.False h = cc
owns_it Principal token.If h = cc
owns_it Principal token.Then h = cc
owns_it Principal token.Else h = cc
owns_it Principal token.In h = cc
owns_it Principal token.Like h = cc
owns_it Principal token.Has h = cc
owns_it Principal token.Is h = cc
owns_it Principal token.Cedar h = cc
owns_it Principal token.Permit h = cc
owns_it Principal token.Forbid h = cc
owns_it Principal token.When h = cc
owns_it Principal token.Unless h = cc
owns_it Principal token.Principal h = refl
owns_it Principal token.Action h = cc
owns_it Principal token.Resource h = cc
owns_it Principal token.Context h = cc
owns_it Principal (token.Other s) h = cc
owns_it Resource token.True h = cc
owns_it Resource token.False h = cc
owns_it Resource token.If h = cc
owns_it Resource token.Then h = cc
owns_it Resource token.Else h = cc
owns_it Resource token.In h = cc
owns_it Resource token.Like h = cc
owns_it Resource token.Has h = cc
owns_it Resource token.Is h = cc
owns_it Resource token.Cedar h = cc
owns_it Resource token.Permit h = cc
owns_it Resource token.Forbid h = cc
owns_it Resource token.When h = cc
owns_it Resource token.Unless h = cc
owns_it Resource token.Principal h = cc
owns_it Resource token.Action h = cc
owns_it Resource token.Resource h = refl
owns_it Resource token.Context h = cc
owns_it Resource (token.Other s) h = cc

owns_not : (v : PrincipalOrResource) (w : Word) → (names_own v w → ⊥) → owns (own_word v) w ≡ false
owns_not Principal token.True h = refl
owns_not Principal token.False h = refl
owns_not Principal token.If h = refl
owns_not Principal token.Then h = refl
owns_not Principal token.Else h = refl
owns_not Principal token.In h = refl
owns_not Principal token.Like h = refl
owns_not Principal token.Has h = refl
owns_not Principal token.Is h = refl
owns_not Principal token.Cedar h = refl
owns_not Principal token.Permit h = refl
owns_not Principal token.Forbid h = refl
owns_not Principal token.When h = refl
owns_not Principal token.Unless h = refl
owns_not Principal token.Principal h = absurd (h refl)
owns_not Principal token.Action h = refl
owns_not Principal token.Resource h = refl
owns_not Principal token.Context h = refl
owns_not Principal (token.Other s) h = refl
owns_not Resource token.True h = refl
owns_not Resource token.False h = refl
owns_not Resource token.If h = refl
owns_not Resource token.Then h = refl
owns_not Resource token.Else h = refl
owns_not Resource token.In h = refl
owns_not Resource token.Like h = refl
owns_not Resource token.Has h = refl
owns_not Resource token.Is h = refl
owns_not Resource token.Cedar h = refl
owns_not Resource token.Permit h = refl
owns_not Resource token.Forbid h = refl
owns_not Resource token.When h = refl
owns_not Resource token.Unless h = refl
owns_not Resource token.Principal h = refl
owns_not Resource token.Action h = refl
owns_not Resource token.Resource h = absurd (h refl)
owns_not Resource token.Context h = refl
owns_not Resource (token.Other s) h = refl

-- whether a word is the variable's own
abbrev owned : Word → loose.Ident → Bool
owned own (loose.ident w) = owns own w
owned own i = false

owned_is : (v : PrincipalOrResource) (i : loose.Ident) → ident_variable i ≡ Some (variable_asked v) → owned (own_word v) i ≡ true
owned_is v loose.missing_ident h = cc
owned_is v (loose.ident w) h = owns_it v w h
owned_is v (loose.invalid_ident s) h = cc

owned_not : (v : PrincipalOrResource) (i : loose.Ident) → (ident_variable i ≡ Some (variable_asked v) → ⊥) → owned (own_word v) i ≡ false
owned_not v loose.missing_ident h = refl
owned_not v (loose.ident w) h = owns_not v w h
owned_not v (loose.invalid_ident s) h = refl

-- ---- what is asked of a variable

pub asked_some : (o : Option Variable) (v : Variable) → (o >>= asked_of) ≡ Some v → o ≡ Some v
asked_some None v h = cc
asked_some (Some tree.Principal) v h = h
asked_some (Some tree.Action) v h = h
asked_some (Some tree.Resource) v h = h
asked_some (Some tree.Context) v h = cc

asked_none : (v : PrincipalOrResource) (o : Option Variable) → (o >>= asked_of) ≡ None → o ≡ Some (variable_asked v) → ⊥
asked_none Principal o h k = let some : (o >>= asked_of) ≡ Some tree.Principal = ap (λ x. x >>= asked_of) k in cc
asked_none Resource o h k = let some : (o >>= asked_of) ≡ Some tree.Resource = ap (λ x. x >>= asked_of) k in cc

constraint_by : (own : Word) (i : loose.Ident) (n : Option loose.Name) (t : Option loose.Add) (c : Option (loose.RelOp × loose.Expr)) → constraint own (loose.variable_def i n t c) ≡ (without n >>= λ u. cond (owned own i) (asked own t c) None)
constraint_by own loose.missing_ident None t c = refl
constraint_by own loose.missing_ident (Some m) t c = refl
constraint_by own (loose.ident w) None t c = refl
constraint_by own (loose.ident w) (Some m) t c = refl
constraint_by own (loose.invalid_ident s) None t c = refl
constraint_by own (loose.invalid_ident s) (Some m) t c = refl

none_named : {A B : Type 0} (n : Option A) → ◌≡◌ {A = Option B} (without n >>= λ u. None) None
none_named None = refl
none_named (Some m) = refl

pub constraint_is : (v : PrincipalOrResource) (i : loose.Ident) (n : Option loose.Name) (t : Option loose.Add) (c : Option (loose.RelOp × loose.Expr)) → ident_variable i ≡ Some (variable_asked v) → without n ≡ Some tt → constraint (own_word v) (loose.variable_def i n t c) ≡ asked (own_word v) t c
constraint_is v i n t c h k =
    constraint_by (own_word v) i n t c
    ∙ ap (λ b. without n >>= λ u. cond b (asked (own_word v) t c) None) (owned_is v i h)
    ∙ ap (λ o. o >>= λ u. asked (own_word v) t c) k

pub constraint_other : (v : PrincipalOrResource) (i : loose.Ident) (n : Option loose.Name) (t : Option loose.Add) (c : Option (loose.RelOp × loose.Expr)) → (ident_variable i ≡ Some (variable_asked v) → ⊥) → constraint (own_word v) (loose.variable_def i n t c) ≡ None
constraint_other v i n t c h =
    constraint_by (own_word v) i n t c
    ∙ ap (λ b. without n >>= λ u. cond b (asked (own_word v) t c) None) (owned_not v i h)
    ∙ none_named n

pub constraint_unasked : (v : PrincipalOrResource) (i : loose.Ident) (n : Option loose.Name) (t : Option loose.Add) (c : Option (loose.RelOp × loose.Expr)) → (ident_variable i >>= asked_of) ≡ None → constraint (own_word v) (loose.variable_def i n t c) ≡ None
constraint_unasked v i n t c h = constraint_other v i n t c (asked_none v (ident_variable i) h)

pub constraint_named : (own : Word) (i : loose.Ident) (n : Option loose.Name) (t : Option loose.Add) (c : Option (loose.RelOp × loose.Expr)) → without n ≡ None → constraint own (loose.variable_def i n t c) ≡ None
constraint_named own i n t c h = constraint_by own i n t c ∙ ap (λ o. o >>= λ u. cond (owned own i) (asked own t c) None) h

-- ---- the action

abbrev acts : loose.Ident → Bool
acts (loose.ident token.Action) = true
acts i = false

acts_is : (i : loose.Ident) → ident_variable i ≡ Some tree.Action → acts i ≡ true
acts_is loose.missing_ident h = cc
acts_is (loose.invalid_ident s) h = cc
acts_is (loose.ident token.True) h = cc
acts_is (loose.ident token.False) h = cc
acts_is (loose.ident token.If) h = cc
acts_is (loose.ident token.Then) h = cc
acts_is (loose.ident token.Else) h = cc
acts_is (loose.ident token.In) h = cc
acts_is (loose.ident token.Like) h = cc
acts_is (loose.ident token.Has) h = cc
acts_is (loose.ident token.Is) h = cc
acts_is (loose.ident token.Cedar) h = cc
acts_is (loose.ident token.Permit) h = cc
acts_is (loose.ident token.Forbid) h = cc
acts_is (loose.ident token.When) h = cc
acts_is (loose.ident token.Unless) h = cc
acts_is (loose.ident token.Principal) h = cc
acts_is (loose.ident token.Action) h = refl
acts_is (loose.ident token.Resource) h = cc
acts_is (loose.ident token.Context) h = cc
acts_is (loose.ident (token.Other s)) h = cc

acts_not : (i : loose.Ident) → (ident_variable i ≡ Some tree.Action → ⊥) → acts i ≡ false
acts_not loose.missing_ident h = refl
acts_not (loose.invalid_ident s) h = refl
acts_not (loose.ident token.True) h = refl
acts_not (loose.ident token.False) h = refl
acts_not (loose.ident token.If) h = refl
acts_not (loose.ident token.Then) h = refl
acts_not (loose.ident token.Else) h = refl
acts_not (loose.ident token.In) h = refl
acts_not (loose.ident token.Like) h = refl
acts_not (loose.ident token.Has) h = refl
acts_not (loose.ident token.Is) h = refl
acts_not (loose.ident token.Cedar) h = refl
acts_not (loose.ident token.Permit) h = refl
acts_not (loose.ident token.Forbid) h = refl
acts_not (loose.ident token.When) h = refl
acts_not (loose.ident token.Unless) h = refl
acts_not (loose.ident token.Principal) h = refl
acts_not (loose.ident token.Action) h = absurd (h refl)
acts_not (loose.ident token.Resource) h = refl
acts_not (loose.ident token.Context) h = refl
acts_not (loose.ident (token.Other s)) h = refl

abbrev acted : loose.Ident → Option loose.Name → Option loose.Add → Option (loose.RelOp × loose.Expr) → Option policy.ActionConstraint
acted i n t c = without n >>= λ u. without t >>= λ w. cond (acts i) (action_asked c) None

none_typed : {A B C : Type 0} (n : Option A) (t : Option B) → ◌≡◌ {A = Option C} (without n >>= λ u. without t >>= λ w. None) None
none_typed None None = refl
none_typed None (Some x) = refl
none_typed (Some m) t = refl

action_by : (i : loose.Ident) (n : Option loose.Name) (t : Option loose.Add) (c : Option (loose.RelOp × loose.Expr)) → action_constraint (loose.variable_def i n t c) ≡ acted i n t c
action_by loose.missing_ident n t c = sym (none_typed n t)
action_by (loose.invalid_ident s) n t c = sym (none_typed n t)
action_by (loose.ident token.True) n t c = sym (none_typed n t)
action_by (loose.ident token.False) n t c = sym (none_typed n t)
action_by (loose.ident token.If) n t c = sym (none_typed n t)
action_by (loose.ident token.Then) n t c = sym (none_typed n t)
action_by (loose.ident token.Else) n t c = sym (none_typed n t)
action_by (loose.ident token.In) n t c = sym (none_typed n t)
action_by (loose.ident token.Like) n t c = sym (none_typed n t)
action_by (loose.ident token.Has) n t c = sym (none_typed n t)
action_by (loose.ident token.Is) n t c = sym (none_typed n t)
action_by (loose.ident token.Cedar) n t c = sym (none_typed n t)
action_by (loose.ident token.Permit) n t c = sym (none_typed n t)
action_by (loose.ident token.Forbid) n t c = sym (none_typed n t)
action_by (loose.ident token.When) n t c = sym (none_typed n t)
action_by (loose.ident token.Unless) n t c = sym (none_typed n t)
action_by (loose.ident token.Principal) n t c = sym (none_typed n t)
action_by (loose.ident token.Action) None None c = refl
action_by (loose.ident token.Action) None (Some x) c = refl
action_by (loose.ident token.Action) (Some m) t c = refl
action_by (loose.ident token.Resource) n t c = sym (none_typed n t)
action_by (loose.ident token.Context) n t c = sym (none_typed n t)
action_by (loose.ident (token.Other s)) n t c = sym (none_typed n t)

pub action_is : (i : loose.Ident) (n : Option loose.Name) (c : Option (loose.RelOp × loose.Expr)) → ident_variable i ≡ Some tree.Action → without n ≡ Some tt → action_constraint (loose.variable_def i n None c) ≡ action_asked c
action_is i n c h k =
    action_by i n None c
    ∙ ap (λ o. o >>= λ u. cond (acts i) (action_asked c) None) k
    ∙ ap (λ b. cond b (action_asked c) None) (acts_is i h)

pub action_other : (i : loose.Ident) (n : Option loose.Name) (t : Option loose.Add) (c : Option (loose.RelOp × loose.Expr)) → (ident_variable i ≡ Some tree.Action → ⊥) → action_constraint (loose.variable_def i n t c) ≡ None
action_other i n t c h =
    action_by i n t c
    ∙ ap (λ b. without n >>= λ u. without t >>= λ w. cond b (action_asked c) None) (acts_not i h)
    ∙ none_typed n t

pub action_unasked : (i : loose.Ident) (n : Option loose.Name) (t : Option loose.Add) (c : Option (loose.RelOp × loose.Expr)) → (ident_variable i >>= asked_of) ≡ None → action_constraint (loose.variable_def i n t c) ≡ None
action_unasked i n t c h = action_other i n t c (λ k. let some : (ident_variable i >>= asked_of) ≡ Some tree.Action = ap (λ x. x >>= asked_of) k in cc)

pub action_named : (i : loose.Ident) (n : Option loose.Name) (t : Option loose.Add) (c : Option (loose.RelOp × loose.Expr)) → without n ≡ None → action_constraint (loose.variable_def i n t c) ≡ None
action_named i n t c h = action_by i n t c ∙ ap (λ o. o >>= λ u. without t >>= λ w. cond (acts i) (action_asked c) None) h

pub action_typed : (i : loose.Ident) (n : Option loose.Name) (x : loose.Add) (c : Option (loose.RelOp × loose.Expr)) → action_constraint (loose.variable_def i n (Some x) c) ≡ None
action_typed i n x c = action_by i n (Some x) c ∙ none_named n
