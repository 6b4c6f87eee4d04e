-- `==` and `in`.
use Rattle.std.proofs.Common.{◌≡◌, Bool, true, false, ◌||◌, cond, List, [], ◌∷◌, Option, Some, None, refl, sym, ap, ◌∙◌, subst, inl, inr}
use Rattle.std.specs.declared.cmp.Ordering.{Ordering}
use Rattle.std.specs.declared.cmp.Ordering.TheVariants as ordering
use Rattle.cedar_language.proofs.Booleans.{or_cases, or_left, or_right, or_false}
use Rattle.cedar_language.specs.Uid.{Name, Uid}
use Rattle.cedar_language.specs.Tree.{Literal, Boolean, Long, String, Entity, Principal, Action, Resource, Context, MakeSet, Tree, Lit, Var, Slot, Unknown, If, And, Or, Apply, Trees, no_trees, a_tree}
use Rattle.cedar_language.specs.Value.{Value, Plain, Values, no_values, a_value, Outcome, Gives, Fails}
use Rattle.cedar_language.specs.Order.{same, same_name, same_uid, value_cmp, placed, put, rising, set_of}
use Rattle.cedar_language.specs.OrderLaws.{same_is, is_same, value_cmp_same}
use Rattle.cedar_language.specs.Facts.{Facts}
use Rattle.cedar_language.specs.Meaning.{Request, GivesAll, apply_of, meaning, meanings}
use Rattle.cedar_language.specs.Operators.{truth, equal_of, has_member, uids_in, is_within, is_within_some, within_members, in_of}
use Rattle.cedar_typing.specs.Types.{CedarType, Entities, Sets, lub}
use Rattle.cedar_typing.specs.Schema.{Environment}
use Rattle.cedar_typing.specs.Results.{Typing, known, unsure}
use Rattle.cedar_typing.specs.Relations.{constant, unlike, equal_by_types, equal_by_constants, equal_type, within_type, action_is_within_some, where_action, and_entity, entities_in, listed, in_by_action, in_entities, in_type}
use Rattle.cedar_typing.specs.Conforming.{IsOf, AreOf, Conforms, IsRequestOf}
use Rattle.cedar_typing.proofs.Sameness.{never, uid_is, name_same}
use Rattle.cedar_typing.proofs.Sounding.{Sounds, unsure_sound, known_sound}
use Rattle.cedar_typing.proofs.Attributes.{first_means}

entity_in : Value → Uid → Uid
entity_in (Plain (Entity u)) w = u
entity_in v w = w

entity_is : (u w : Uid) → Plain (Entity u) ≡ Plain (Entity w) → u ≡ w
unfolding entity_in
entity_is u w e = ap (λ v. entity_in v u) e

none_if : (b : Bool) (t : CedarType) → cond b (Some t) None ≡ None → b ≡ false
none_if true t e = cc
none_if false t e = refl

-- entities of two types are not one
types_apart : (b : Bool) (n m : Name) (v w : Value) → same v w ≡ b → IsOf (Entities n) v → IsOf (Entities m) w → lub (Entities n) (Entities m) ≡ None →
    b ≡ false
types_apart false n m v w i h k e = refl
types_apart true n m v w i h k e =
    let one : h.0 ≡ k.0 = entity_is h.0 k.0 (sym h.1 ∙ same_is v w i ∙ k.1) in
    let names : n ≡ m = sym h.2 ∙ ap (λ (u : Uid). u.type_name) one ∙ k.2 in
    never (sym (sym (name_same n) ∙ ap (same_name n) names ∙ none_if (same_name n m) (Entities n) e))

-- ---- uids as values

abbrev AreUids : Values → List Uid → Type 0
AreUids no_values [] = Unit {0}
AreUids (a_value v vs) (u ∷ us) = (v ≡ Plain (Entity u)) × AreUids vs us
AreUids vs us = ⊥

abbrev all_uids : List Uid → Values
all_uids [] = no_values
all_uids (u ∷ us) = a_value (Plain (Entity u)) (all_uids us)

uids_are : (vs : Values) (us : List Uid) → AreUids vs us → uids_in vs ≡ Some us
uids_are no_values [] h = refl
uids_are no_values (u ∷ us) h = absurd h
uids_are (a_value v vs) [] h = absurd h
uids_are (a_value v vs) (u ∷ us) h = rw (h.0, uids_are vs us h.1) refl

or_twice : (x y : Bool) → (x || y) ≡ (x || (x || y))
or_twice true y = refl
or_twice false y = refl

or_swap : (x y z : Bool) → (x || (y || z)) ≡ (y || (x || z))
or_swap true true z = refl
or_swap true false z = refl
or_swap false true z = refl
or_swap false false z = refl

module _ (facts : Facts) (a : Uid) where
  -- uids of these values, within some of which the entity is exactly where it is within this one or some of those
  abbrev WithOneMore : Uid → List Uid → Values → Type 0
  WithOneMore b us vs = (ws : List Uid) × AreUids vs ws × (is_within_some facts a ws ≡ (is_within facts a b || is_within_some facts a us))

  placed_uids : (o : Ordering) (b c : Uid) (v w : Value) (vs ws : Values) (us : List Uid) → value_cmp v w ≡ o → v ≡ Plain (Entity b) → w ≡ Plain (Entity c) →
      AreUids ws us →
      WithOneMore b us vs → WithOneMore b (c ∷ us) (placed o v w ws vs)
  placed_uids ordering.Less b c v w vs ws us e i j h k = (b ∷ c ∷ us, (i, (j, h)), refl)
  placed_uids ordering.Equal b c v w vs ws us e i j h k =
      let one : b ≡ c = entity_is b c (sym i ∙ value_cmp_same v w e ∙ j) in
      (c ∷ us, (j, h), rw one (or_twice (is_within facts a c) (is_within_some facts a us)))
  placed_uids ordering.Greater b c v w vs ws us e i j h k =
      (c ∷ k.0, (j, k.1), rw k.2 (or_swap (is_within facts a c) (is_within facts a b) (is_within_some facts a us)))

  put_uids : (b : Uid) (vs : Values) (us : List Uid) → AreUids vs us → WithOneMore b us (put (Plain (Entity b)) vs)
  put_uids b no_values [] h = (b ∷ [], (refl, tt), refl)
  put_uids b no_values (u ∷ us) h = absurd h
  put_uids b (a_value w ws) [] h = absurd h
  put_uids b (a_value w ws) (c ∷ us) h =
      placed_uids (value_cmp (Plain (Entity b)) w) b c (Plain (Entity b)) w (put (Plain (Entity b)) ws) ws us refl refl h.0 h.1 (put_uids b ws us h.1)

  rising_uids : (bs : List Uid) → (ws : List Uid) × AreUids (rising (all_uids bs)) ws × (is_within_some facts a ws ≡ is_within_some facts a bs)
  rising_uids [] = ([], tt, refl)
  rising_uids (b ∷ bs) =
      let below = rising_uids bs in
      let more = put_uids b (rising (all_uids bs)) below.0 below.1 in
      (more.0, more.1, more.2 ∙ ap (λ x. is_within facts a b || x) below.2)

  -- `in` a set of these entities
  in_set_of : (bs : List Uid) → in_of facts (a_value (Plain (Entity a)) (a_value (set_of (all_uids bs)) no_values)) ≡ truth (is_within_some facts a bs)
  in_set_of bs = let u = rising_uids bs in ap (within_members facts a) (uids_are (rising (all_uids bs)) u.0 u.1) ∙ ap truth u.2

abbrev AreTyped : Name → List Uid → Type 0
AreTyped m [] = Unit {0}
AreTyped m (u ∷ us) = (u.type_name ≡ m) × AreTyped m us

same_self : (v : Value) (vs : Values) → has_member (a_value v vs) v ≡ true
same_self v vs = or_left (same v v) (has_member vs v) (is_same v v refl)

-- the members of a set of entities
members_typed : (m : Name) (vs : Values) → ((w : Value) → has_member vs w ≡ true → IsOf (Entities m) w) → (us : List Uid) × AreUids vs us × AreTyped m us
members_typed m no_values f = ([], tt, tt)
members_typed m (a_value v vs) f =
    let first = f v (same_self v vs) in
    let later = members_typed m vs (λ w h. f w (or_right (same v w) (has_member vs w) h)) in
    (first.0 ∷ later.0, (first.1, later.1), (first.2, later.2))

given : Value → Outcome → Value
given v (Gives w) = w
given v (Fails k) = v

option_in : Option Literal → Literal → Literal
option_in (Some l) m = l
option_in None m = m

module _ (e : Environment) (facts : Facts) (request : Request) (conforms : Conforms e.schema facts) (asked : IsRequestOf e request) where
  abbrev S : Typing → Outcome → Type 0
  S x o = Sounds facts request x o

  constant_means : (x : Tree) (l : Literal) → constant e x ≡ Some l → meaning facts request x ≡ Gives (Plain l)
  unfolding option_in
  constant_means (Lit m) l h = ap (λ o. Gives (Plain (option_in o m))) h
  constant_means (Var Action) l h = ap Gives asked.action ∙ ap (λ o. Gives (Plain (option_in o (Entity e.action)))) h
  constant_means (Var Principal) l h = cc
  constant_means (Var Resource) l h = cc
  constant_means (Var Context) l h = cc
  constant_means (Slot s) l h = cc
  constant_means (Unknown n ty) l h = cc
  constant_means (If t y n) l h = cc
  constant_means (And t u) l h = cc
  constant_means (Or t u) l h = cc
  constant_means (Apply op ts) l h = cc

  gives_is : (v w : Value) → Gives v ≡ Gives w → v ≡ w
  unfolding given
  gives_is v w h = ap (given v) h

  -- ---- `==`

  unlike_sound : (t u : CedarType) (v w : Value) → lub t u ≡ None → IsOf t v → IsOf u w → S (unlike t u) (truth (same v w))
  unlike_sound (Entities n) (Entities m) v w i h k = known_sound facts request false (same v w) (types_apart (same v w) n m v w refl h k i)
  unlike_sound t u v w i h k = tt

  by_types_sound : (o : Option CedarType) (t u : CedarType) (v w : Value) → lub t u ≡ o → IsOf t v → IsOf u w → S (equal_by_types o t u) (truth (same v w))
  by_types_sound (Some x) t u v w i h k = unsure_sound facts request (same v w)
  by_types_sound None t u v w i h k = unlike_sound t u v w i h k

  by_constants_sound : (a b : Option Literal) (t u : CedarType) (v w : Value) → ((l : Literal) → a ≡ Some l → v ≡ Plain l) →
      ((l : Literal) → b ≡ Some l → w ≡ Plain l) → IsOf t v → IsOf u w →
      S (equal_by_constants a b t u) (truth (same v w))
  by_constants_sound (Some l) (Some m) t u v w f g h k = known_sound facts request (same (Plain l) (Plain m)) (same v w) (rw (f l refl, g m refl) refl)
  by_constants_sound (Some l) None t u v w f g h k = by_types_sound (lub t u) t u v w refl h k
  by_constants_sound None b t u v w f g h k = by_types_sound (lub t u) t u v w refl h k

  -- what two operands mean
  two_mean : (x y : Tree) (v w : Value) → meanings facts request (a_tree x (a_tree y no_trees)) ≡ GivesAll (a_value v (a_value w no_values)) →
      (meaning facts request x ≡ Gives v) × (meaning facts request y ≡ Gives w)
  two_mean x y v w m =
      let one = first_means (meaning facts request x) (meanings facts request (a_tree y no_trees)) v (a_value w no_values) m in
      let two = first_means (meaning facts request y) (GivesAll no_values) w no_values one.1 in
      (one.0, two.0)

  equal_at : (x y : Tree) (t u : CedarType) (vs : Values) → AreOf (t ∷ u ∷ []) vs → meanings facts request (a_tree x (a_tree y no_trees)) ≡ GivesAll vs →
      S (equal_by_constants (constant e x) (constant e y) t u) (equal_of vs)
  equal_at x y t u no_values h m = absurd h
  equal_at x y t u (a_value v no_values) h m = absurd h.1
  equal_at x y t u (a_value v (a_value w no_values)) h m =
      let mean = two_mean x y v w m in
      by_constants_sound (constant e x) (constant e y) t u v w (λ l i. gives_is v (Plain l) (sym mean.0 ∙ constant_means x l i))
      (λ l i. gives_is w (Plain l) (sym mean.1 ∙ constant_means y l i)) h.0 h.1.0
  equal_at x y t u (a_value v (a_value w (a_value z zs))) h m = absurd h.1.1

  pub equal_sound : (xs : Trees) (ts : List CedarType) (vs : Values) → AreOf ts vs → meanings facts request xs ≡ GivesAll vs →
      S (equal_type e xs ts) (equal_of vs)
  equal_sound (a_tree x (a_tree y no_trees)) (t ∷ u ∷ []) vs h m = equal_at x y t u vs h m
  equal_sound xs ts vs h m = tt

  -- ---- `in` by types

  unrelated : (b : Bool) (n m : Name) (u w : Uid) → is_within facts u w ≡ b → u.type_name ≡ n → w.type_name ≡ m →
      (same_name n m || e.schema.may_reach n m) ≡ false → b ≡ false
  unrelated false n m u w i h k r = refl
  unrelated true n m u w i h k r = elim (or_cases (same_uid u w) (facts.reaches u w) i) [
    | inl s ↦
        let one : n ≡ m = sym h ∙ ap (λ (x : Uid). x.type_name) (uid_is u w s) ∙ k in
        never (sym (sym (or_left (same_name n m) (e.schema.may_reach n m) (sym (ap (same_name n) one) ∙ name_same n)) ∙ r))
    | inr s ↦
        let types = ap (λ x. e.schema.may_reach x w.type_name) h ∙ ap (λ x. e.schema.may_reach n x) k in
        never (sym (sym (or_right (same_name n m) (e.schema.may_reach n m) (sym types ∙ conforms.hierarchy u w s)) ∙ r))
  ]

  within_if : (b : Bool) (n m : Name) (u w : Uid) → (same_name n m || e.schema.may_reach n m) ≡ b → u.type_name ≡ n → w.type_name ≡ m →
      S (cond b unsure (known false)) (truth (is_within facts u w))
  within_if true n m u w i h k = unsure_sound facts request (is_within facts u w)
  within_if false n m u w i h k = known_sound facts request false (is_within facts u w) (unrelated (is_within facts u w) n m u w refl h k i)

  none_within : (n m : Name) (u : Uid) (ws : List Uid) → (same_name n m || e.schema.may_reach n m) ≡ false → u.type_name ≡ n → AreTyped m ws →
      is_within_some facts u ws ≡ false
  none_within n m u [] i h k = refl
  none_within n m u (w ∷ ws) i h k = rw (unrelated (is_within facts u w) n m u w refl h k.0 i, none_within n m u ws i h k.1) refl

  within_some_if : (b : Bool) (n m : Name) (u : Uid) (ws : List Uid) → (same_name n m || e.schema.may_reach n m) ≡ b → u.type_name ≡ n → AreTyped m ws →
      S (cond b unsure (known false)) (truth (is_within_some facts u ws))
  within_some_if true n m u ws i h k = unsure_sound facts request (is_within_some facts u ws)
  within_some_if false n m u ws i h k = known_sound facts request false (is_within_some facts u ws) (none_within n m u ws i h k)

  entity_within : (n m : Name) (v w : Value) → IsOf (Entities n) v → IsOf (Entities m) w →
      S (within_type e.schema n m) (in_of facts (a_value v (a_value w no_values)))
  entity_within n m v w h k = rw (h.1, k.1) (within_if (same_name n m || e.schema.may_reach n m) n m h.0 k.0 refl h.2 k.2)

  set_within : (n m : Name) (v w : Value) → IsOf (Entities n) v → IsOf (Sets (Entities m)) w →
      S (within_type e.schema n m) (in_of facts (a_value v (a_value w no_values)))
  set_within n m v w h k =
      let us = members_typed m k.0 k.2 in
      rw (h.1, k.1, uids_are k.0 us.0 us.1) (within_some_if (same_name n m || e.schema.may_reach n m) n m h.0 us.0 refl h.2 us.2)

  -- ---- `in` of the action and listed entities

  entities_mean : (xs : Trees) (bs : List Uid) → entities_in e xs ≡ Some bs → meanings facts request xs ≡ GivesAll (all_uids bs)
  entities_mean no_trees bs h = ap (λ us. GivesAll (all_uids us)) (some_is [] bs h)
    where
      some_is : (us ws : List Uid) → Some us ≡ Some ws → us ≡ ws
      some_is us ws h = cc
  entities_mean (a_tree x xs) bs h = more_mean (constant e x) (entities_in e xs) bs h x xs (λ l i. constant_means x l i) (λ us i. entities_mean xs us i)
    where
      more_mean : (o : Option Literal) (r : Option (List Uid)) (bs : List Uid) → and_entity o r ≡ Some bs → (x : Tree) (xs : Trees) →
          ((l : Literal) → o ≡ Some l → meaning facts request x ≡ Gives (Plain l)) →
          ((us : List Uid) → r ≡ Some us → meanings facts request xs ≡ GivesAll (all_uids us)) →
          meanings facts request (a_tree x xs) ≡ GivesAll (all_uids bs)
      more_mean (Some (Entity u)) (Some us) bs h x xs f g =
          let is : u ∷ us ≡ bs = cc in rw (f (Entity u) refl, g us refl) (ap (λ ws. GivesAll (all_uids ws)) is)
      more_mean (Some (Entity u)) None bs h x xs f g = cc
      more_mean (Some (Boolean b)) r bs h x xs f g = cc
      more_mean (Some (Long n)) r bs h x xs f g = cc
      more_mean (Some (String s)) r bs h x xs f g = cc
      more_mean None r bs h x xs f g = cc

  one_listed : (a : Uid) (o : Option Literal) (bs : List Uid) (w : Value) → and_entity o (Some []) ≡ Some bs → ((l : Literal) → o ≡ Some l → w ≡ Plain l) →
      in_of facts (a_value (Plain (Entity a)) (a_value w no_values)) ≡ truth (is_within_some facts a bs)
  one_listed a (Some (Entity u)) bs w h f =
      let is : u ∷ [] ≡ bs = cc in
      rw (f (Entity u) refl, ← is) (ap truth (sym (or_false (is_within facts a u))))
  one_listed a (Some (Boolean b)) bs w h f = cc
  one_listed a (Some (Long n)) bs w h f = cc
  one_listed a (Some (String s)) bs w h f = cc
  one_listed a None bs w h f = cc

  listed_means : (a : Uid) (y : Tree) (bs : List Uid) (w : Value) → listed e y ≡ Some bs → meaning facts request y ≡ Gives w →
      in_of facts (a_value (Plain (Entity a)) (a_value w no_values)) ≡ truth (is_within_some facts a bs)
  listed_means a (Apply MakeSet xs) bs w h m =
      let is : w ≡ set_of (all_uids bs) = gives_is w (set_of (all_uids bs)) (sym m ∙ ap (apply_of facts MakeSet) (entities_mean xs bs h)) in
      rw is (in_set_of facts a bs)
  listed_means a y bs w h m = one_listed a (constant e y) bs w h (λ l i. gives_is w (Plain l) (sym m ∙ constant_means y l i))

  action_is : (b : Bool) (u a : Uid) → e.schema.is_action u ≡ b → cond b (Some u) None ≡ Some a → (u ≡ a) × (e.schema.is_action a ≡ true)
  action_is true u a i h = let one : u ≡ a = cc in (one, ap e.schema.is_action (sym one) ∙ i)
  action_is false u a i h = cc

  where_action_is : (o : Option Literal) (a : Uid) → where_action e.schema o ≡ Some a → (o ≡ Some (Entity a)) × (e.schema.is_action a ≡ true)
  where_action_is (Some (Entity u)) a h = let two = action_is (e.schema.is_action u) u a refl h in (ap (λ x. Some (Entity x)) two.0, two.1)
  where_action_is (Some (Boolean b)) a h = cc
  where_action_is (Some (Long n)) a h = cc
  where_action_is (Some (String s)) a h = cc
  where_action_is None a h = cc

  actions_within : (a : Uid) (bs : List Uid) → e.schema.is_action a ≡ true → is_within_some facts a bs ≡ action_is_within_some e.schema a bs
  actions_within a [] h = refl
  actions_within a (b ∷ bs) h = rw (conforms.actions a b h, actions_within a bs h) refl

  in_by_sound : (a : Option Uid) (bs : Option (List Uid)) (n m : Name) (o : Outcome) → S (within_type e.schema n m) o →
      ((u : Uid) (us : List Uid) → a ≡ Some u → bs ≡ Some us → o ≡ truth (action_is_within_some e.schema u us)) → S (in_by_action e.schema a bs n m) o
  in_by_sound (Some u) (Some us) n m o s f =
      subst (λ p. S (known (action_is_within_some e.schema u us)) p) (sym (f u us refl refl))
      (known_sound facts request (action_is_within_some e.schema u us) (action_is_within_some e.schema u us) refl)
  in_by_sound (Some u) None n m o s f = s
  in_by_sound None bs n m o s f = s

  in_known : (x y : Tree) (v w : Value) → meaning facts request x ≡ Gives v → meaning facts request y ≡ Gives w → (u : Uid) (us : List Uid) →
      where_action e.schema (constant e x) ≡ Some u → listed e y ≡ Some us →
      in_of facts (a_value v (a_value w no_values)) ≡ truth (action_is_within_some e.schema u us)
  in_known x y v w m k u us h i =
      let two = where_action_is (constant e x) u h in
      let is : v ≡ Plain (Entity u) = gives_is v (Plain (Entity u)) (sym m ∙ constant_means x (Entity u) two.0) in
      ap (λ z. in_of facts (a_value z (a_value w no_values))) is ∙ listed_means u y us w i k ∙ ap truth (actions_within u us two.1)

  in_two : (x y : Tree) (n m : Name) (v w : Value) → S (within_type e.schema n m) (in_of facts (a_value v (a_value w no_values))) →
      meanings facts request (a_tree x (a_tree y no_trees)) ≡ GivesAll (a_value v (a_value w no_values)) →
      S (in_by_action e.schema (where_action e.schema (constant e x)) (listed e y) n m) (in_of facts (a_value v (a_value w no_values)))
  in_two x y n m v w s k =
      let mean = two_mean x y v w k in
      in_by_sound (where_action e.schema (constant e x)) (listed e y) n m (in_of facts (a_value v (a_value w no_values))) s (in_known x y v w mean.0 mean.1)

  in_at : (x y : Tree) (n m : Name) (t : CedarType) →
      ((v w : Value) → IsOf (Entities n) v → IsOf t w → S (within_type e.schema n m) (in_of facts (a_value v (a_value w no_values)))) →
      (vs : Values) → AreOf (Entities n ∷ t ∷ []) vs → meanings facts request (a_tree x (a_tree y no_trees)) ≡ GivesAll vs →
      S (in_by_action e.schema (where_action e.schema (constant e x)) (listed e y) n m) (in_of facts vs)
  in_at x y n m t f no_values h k = absurd h
  in_at x y n m t f (a_value v no_values) h k = absurd h.1
  in_at x y n m t f (a_value v (a_value w no_values)) h k = in_two x y n m v w (f v w h.0 h.1.0) k
  in_at x y n m t f (a_value v (a_value w (a_value z zs))) h k = absurd h.1.1

  in_all : (xs : Trees) (n m : Name) (t : CedarType) →
      ((v w : Value) → IsOf (Entities n) v → IsOf t w → S (within_type e.schema n m) (in_of facts (a_value v (a_value w no_values)))) →
      (vs : Values) → AreOf (Entities n ∷ t ∷ []) vs → meanings facts request xs ≡ GivesAll vs → S (in_entities e xs n m) (in_of facts vs)
  in_all (a_tree x (a_tree y no_trees)) n m t f vs h k = in_at x y n m t f vs h k
  in_all xs n m t f vs h k = tt

  pub in_sound : (xs : Trees) (ts : List CedarType) (vs : Values) → AreOf ts vs → meanings facts request xs ≡ GivesAll vs → S (in_type e xs ts) (in_of facts vs)
  in_sound xs (Entities n ∷ Entities m ∷ []) vs h k = in_all xs n m (Entities m) (entity_within n m) vs h k
  in_sound xs (Entities n ∷ Sets (Entities m) ∷ []) vs h k = in_all xs n m (Sets (Entities m)) (set_within n m) vs h k
  in_sound xs ts vs h k = tt
