-- Entities that are actions, and those that are none.
use Rattle.std.proofs.Common.{◌≡◌, ◌<◌, Bool, true, false, List, [], ◌∷◌, Option, Some, None, Global, length, refl, sym, ap, ◌∙◌, arith}
use Rattle.std.specs.declared.rc.Rc.{Rc}
use Rattle.std.specs.Prelude.{◌↔◌, ◌-◌, ◌++◌, suc, cond, IsTrue, slice_index_or, codes}
use Rattle.std.specs.Cmp.Lexicographic.{bytes_decides}
use Rattle.cedar_language.specs.Uid.{Text, Name, Uid}
use Rattle.cedar_grammar.specs.Policies.{ends_in_action}
use Rattle.cedar_grammar.specs.Steps.{◌>>=◌}
use Rattle.cedar_grammar.specs.Loose as loose
use Rattle.cedar_grammar.specs.Converting.{each, inside_parens, primary_action, action, actions, actions_among}
use Rattle.cedar_policy_parts.specs.Actions.{held_uids}
use Rattle.cedar_names.specs.Names.{basename_of}
use Rattle.cedar_literals.specs.Uids.{IsActionType}
use Rattle.cedar_policy_conversion.specs.Entities.{listed, primary_entity, entity, as_action, others}
use Rattle.cedar_policy_conversion.specs.PartsShow.{entities_of}

-- ---- types whose last identifier is `Action`

basename_behind : (s r : Text) (p : Name) → basename_of (s ∷ r ∷ p) ≡ basename_of (r ∷ p)
basename_behind s r p =
    let last : length (s ∷ r ∷ p) - 1 ≡ suc (length (r ∷ p) - 1) = omega arith in
    ap (λ k. slice_index_or (s ∷ r ∷ p) k []) last

ends_so : (p : Name) → IsActionType p → ends_in_action p ≡ true
ends_so [] e = let none : length (codes "Action") ≡ 0 = ap length (sym e) in absurd (cc none)
ends_so (s ∷ []) e = (bytes_decides s (codes "Action")).1 e
ends_so (s ∷ r ∷ p) e = ends_so (r ∷ p) (sym (basename_behind s r p) ∙ e)

pub action_type : (p : Name) → ends_in_action p ≡ true → IsActionType p
action_type [] e = absurd (cc e)
action_type (s ∷ []) e = (bytes_decides s (codes "Action")).0 e
action_type (s ∷ r ∷ p) e = basename_behind s r p ∙ action_type (r ∷ p) e

-- a test of the type
pub decided : (b : Bool) (p : Name) → IsTrue b ↔ IsActionType p → b ≡ ends_in_action p
decided b p h = by b (ends_in_action p) (λ e. ends_so p (h.0 e)) (λ e. h.1 (action_type p e))
  where
    by : (b d : Bool) → (b ≡ true → d ≡ true) → (d ≡ true → b ≡ true) → b ≡ d
    by true d f g = sym (f refl)
    by false true f g = g refl
    by false false f g = refl

-- ---- actions are entities that are taken as actions

pub none_after : {A B : Type 0} (o : Option A) → ◌≡◌ {A = Option B} (o >>= λ _. None) None
none_after None = refl
none_after (Some x) = refl

by_primary : (p : loose.Primary) → primary_action p ≡ (primary_entity p >>= as_action)
by_primary loose.missing_primary = refl
by_primary (loose.literal l) = refl
by_primary (loose.entity r) = refl
by_primary (loose.named n) = refl
by_primary (loose.slot s) = refl
by_primary (loose.expr e) = refl
by_primary (loose.e_list es) = refl
by_primary (loose.r_inits rs) = refl

by_option : (o : Option loose.Primary) → (o >>= primary_action) ≡ ((o >>= primary_entity) >>= as_action)
by_option None = refl
by_option (Some p) = by_primary p

pub action_is : (e : loose.Expr) → action e ≡ (entity e >>= as_action)
action_is e = by_option (inside_parens e)

abbrev prefixed : Uid → List Uid → Option (List Uid)
prefixed u us = Some (u ∷ us)

one_more : (o : Option Uid) (es : Option (List Uid)) → ((o >>= as_action) >>= λ u. (es >>= each as_action) >>= prefixed u) ≡ ((o >>= λ y. es >>= prefixed y) >>= each as_action)
one_more None es = refl
one_more (Some y) None = none_after (as_action y)
one_more (Some y) (Some ys) = refl

pub actions_are : (xs : List loose.Expr) → actions (loose.exprs xs) ≡ (each entity xs >>= each as_action)
actions_are [] = refl
actions_are (x ∷ xs) =
    ap (λ o. o >>= λ u. actions (loose.exprs xs) >>= prefixed u) (action_is x)
    ∙ ap (λ o. (entity x >>= as_action) >>= λ u. o >>= prefixed u) (actions_are xs)
    ∙ one_more (entity x) (each entity xs)

pub entities_are : (xs : List loose.Expr) → entities_of (loose.exprs xs) ≡ each entity xs
entities_are [] = refl
entities_are (x ∷ xs) = ap (λ o. entity x >>= λ u. o >>= prefixed u) (entities_are xs)

-- ---- a list, or one

pub among_listed : (e : loose.Expr) (o : Option loose.Primary) (es : loose.Exprs) → (o >>= listed) ≡ Some es → actions_among e o ≡ actions es
among_listed e None es h = cc
among_listed e (Some loose.missing_primary) es h = cc
among_listed e (Some (loose.literal l)) es h = cc
among_listed e (Some (loose.entity r)) es h = cc
among_listed e (Some (loose.named n)) es h = cc
among_listed e (Some (loose.slot s)) es h = cc
among_listed e (Some (loose.expr d)) es h = cc
among_listed e (Some (loose.e_list ds)) es h = let same : ds ≡ es = cc in ap actions same
among_listed e (Some (loose.r_inits rs)) es h = cc

pub among_alone : (e : loose.Expr) (o : Option loose.Primary) → (o >>= listed) ≡ None → actions_among e o ≡ (action e >>= λ u. Some (u ∷ []))
among_alone e None h = refl
among_alone e (Some loose.missing_primary) h = refl
among_alone e (Some (loose.literal l)) h = refl
among_alone e (Some (loose.entity r)) h = refl
among_alone e (Some (loose.named n)) h = refl
among_alone e (Some (loose.slot s)) h = refl
among_alone e (Some (loose.expr d)) h = refl
among_alone e (Some (loose.e_list ds)) h = cc
among_alone e (Some (loose.r_inits rs)) h = refl

-- ---- those that are no actions

pub all_actions : (us : List Uid) → others us ≡ [] → each as_action us ≡ Some us
all_actions [] h = refl
all_actions (u ∷ us) h = by (ends_in_action u.type_name) refl (all_actions us)
  where
    by : (b : Bool) → ends_in_action u.type_name ≡ b → (others us ≡ [] → each as_action us ≡ Some us) → each as_action (u ∷ us) ≡ Some (u ∷ us)
    by true e more =
        let less : others us ≡ [] = rw e at h in
        ap (λ b. cond b (Some u) None >>= λ v. each as_action us >>= prefixed v) e ∙ ap (λ o. o >>= prefixed u) (more less)
    by false e more = let some : (u ∷ others us) ≡ [] = rw e at h in cc

pub some_other : (us : List Uid) (v : Uid) (vs : List Uid) → others us ≡ v ∷ vs → each as_action us ≡ None
some_other [] v vs h = cc
some_other (u ∷ us) v vs h = by (ends_in_action u.type_name) refl (some_other us v vs)
  where
    by : (b : Bool) → ends_in_action u.type_name ≡ b → (others us ≡ v ∷ vs → each as_action us ≡ None) → each as_action (u ∷ us) ≡ None
    by true e none =
        let less : others us ≡ v ∷ vs = rw e at h in
        ap (λ b. cond b (Some u) None >>= λ v. each as_action us >>= prefixed v) e ∙ ap (λ o. o >>= prefixed u) (none less)
    by false e none = ap (λ b. cond b (Some u) None >>= λ v. each as_action us >>= prefixed v) e

pub held_other : (rs : List (Rc Uid Global)) (us : List Uid) → held_uids rs ≡ others us → 0 < length rs → each as_action us ≡ None
held_other [] us h k = absurd (omega arith)
held_other (r ∷ rs) us h k = some_other us r.value (held_uids rs) (sym h)

-- one more entity behind the others
pub each_last : (xs : List loose.Expr) (x : loose.Expr) → each entity (xs ++ x ∷ []) ≡ (each entity xs >>= λ us. entity x >>= λ u. Some (us ++ u ∷ []))
each_last [] x = refl
each_last (y ∷ ys) x =
    ap (λ o. entity y >>= λ v. o >>= prefixed v) (each_last ys x)
    ∙ by (entity y) (each entity ys) (entity x)
  where
    by : (a : Option Uid) (o : Option (List Uid)) (b : Option Uid) → (a >>= λ v. (o >>= λ us. b >>= λ u. Some (us ++ u ∷ [])) >>= prefixed v) ≡ ((a >>= λ v. o >>= prefixed v) >>= λ us. b >>= λ u. Some (us ++ u ∷ []))
    by None o b = refl
    by (Some v) None b = refl
    by (Some v) (Some us) None = refl
    by (Some v) (Some us) (Some u) = refl
