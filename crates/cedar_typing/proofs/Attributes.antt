-- `.a`, `has` and tags.
use Rattle.std.proofs.Common.{◌≡◌, Bool, true, false, cond, List, [], ◌∷◌, ◌++◌, Option, Some, None, refl, sym, ap, ◌∙◌, subst}
use Rattle.cedar_language.specs.Uid.{Text, Name, Uid}
use Rattle.cedar_language.specs.Tree.{Boolean, Entity, Tree, Trees, no_trees, a_tree}
use Rattle.cedar_language.specs.Value.{Value, Plain, Values, no_values, a_value, Kind, TypeError, EntityDoesNotExist, RecordAttrDoesNotExist, EntityAttrDoesNotExist, Outcome, Gives, Fails}
use Rattle.cedar_language.specs.Order.{same_text}
use Rattle.cedar_language.specs.Facts.{Held, Facts}
use Rattle.cedar_language.specs.Meaning.{Request, Outcomes, GivesAll, OneFails, boolean_of, and_of, more_of, meaning, meanings}
use Rattle.cedar_language.specs.Operators.{truth, found, or_fails, attribute, attribute_held, attribute_of, has_of, is_there, path_from, has_path_of, tag_held, tag_of}
use Rattle.cedar_typing.specs.Types.{BoolType, Presence, Required, Optional, CedarType, Strings, Entities, Records, Fields, no_fields, a_field, Field, field_at}
use Rattle.cedar_typing.specs.Capabilities.{an_attribute, a_tag, Capabilities, is_among, guard, AllHold}
use Rattle.cedar_typing.specs.Schema.{EntityShape, Environment}
use Rattle.cedar_typing.specs.Results.{Typing, HasType, Faulty}
use Rattle.cedar_typing.specs.Attributes.{where_guarded, by_presence, field_type, of_shape, attributes_of, get_type, has_by_presence, has_in_record, has_in_entity, has_by, has_type, attribute_type, has_attribute_type, get, then_path, path_type, has_path_type, tags_of, where_tag_guarded, tag_type, get_tag_type, has_tag_by, where_shaped, has_tag_type}
use Rattle.cedar_typing.specs.Conforming.{IsBoolOf, FitsAt, IsOf, Fit, AreOf, TagsFit, IsShaped, Conforms}
use Rattle.cedar_typing.proofs.Sameness.{never, text_is}
use Rattle.cedar_typing.proofs.Sounding.{Sounds, fails_soundly, hold_all, given_holds, gives_hold}
use Rattle.cedar_typing.proofs.Lazies.{boolean_is, and_sound}

abbrev pub FitsField : Option Field → Option Value → Type 0
FitsField None o = Unit {0}
FitsField (Some f) o = FitsAt f.presence (IsOf f.type) o

field_fits_if : (b : Bool) (k a : Text) → same_text k a ≡ b → (p : Presence) (t : CedarType) (rest : Option Field) (look : Text → Option Value) →
    FitsAt p (IsOf t) (look k) → FitsField rest (look a) → FitsField (cond b (Some (record { presence = p; type = t })) rest) (look a)
field_fits_if true k a e p t rest look h r = subst (λ x. FitsAt p (IsOf t) (look x)) (text_is k a e) h
field_fits_if false k a e p t rest look h r = r

pub field_fits : (fs : Fields) (look : Text → Option Value) (a : Text) → Fit fs look → FitsField (field_at fs a) (look a)
field_fits no_fields look a h = tt
field_fits (a_field k p t fs) look a h = field_fits_if (same_text k a) k a refl p t (field_at fs a) look h.0 (field_fits fs look a h.1)

-- ---- operands, by what they mean

values_in : Outcomes → Values
values_in (GivesAll vs) = vs
values_in (OneFails k) = no_values

value_in : Values → Value → Value
value_in (a_value v vs) w = v
value_in no_values w = w

rest_in : Values → Values
rest_in (a_value v vs) = vs
rest_in no_values = no_values

pub first_means : (o : Outcome) (os : Outcomes) (v : Value) (vs : Values) → more_of o os ≡ GivesAll (a_value v vs) → (o ≡ Gives v) × (os ≡ GivesAll vs)
unfolding values_in value_in rest_in
first_means (Gives w) (GivesAll ws) v vs e = (ap (λ x. Gives (value_in (values_in x) v)) e, ap (λ x. GivesAll (rest_in (values_in x))) e)
first_means (Gives w) (OneFails k) v vs e = cc
first_means (Fails k) os v vs e = cc

-- ---- paths

given : Outcome → Value
given (Gives v) = v
given (Fails k) = Plain (Boolean false)

no_truth : {A : Type 0} → truth false ≡ truth true → A
unfolding given
no_truth h = never (boolean_is false true (ap given h))

never_there : {A : Type 0} (k : Kind) → is_there (Fails k) ≡ truth true → A
never_there TypeError h = cc
never_there k h = no_truth h

there_boolean : (o : Outcome) → is_there o ≡ boolean_of (is_there o)
there_boolean (Gives v) = refl
there_boolean (Fails TypeError) = refl
there_boolean (Fails k) = refl

module _ (facts : Facts) where
  path_boolean : (as_ : List Text) (o : Outcome) → path_from facts as_ o ≡ boolean_of (path_from facts as_ o)
  path_boolean [] o = there_boolean o
  path_boolean (b ∷ bs) (Gives v) = path_boolean bs (attribute facts b v)
  path_boolean (b ∷ bs) (Fails k) = there_boolean (Fails k)

  path_is_and : (b : Text) (bs : List Text) (o : Outcome) → path_from facts (b ∷ bs) o ≡ and_of (is_there o) (path_from facts (b ∷ bs) o)
  path_is_and b bs (Gives v) = path_boolean bs (attribute facts b v)
  path_is_and b bs (Fails TypeError) = refl
  path_is_and b bs (Fails k) = refl

-- what is there, and what is known of that
abbrev pub IsThere : BoolType → Outcome → Type 0
IsThere t o = (b : Bool) × (o ≡ truth b) × IsBoolOf t b

never_false : {A : Type 0} → truth false ≡ truth true → A
never_false e = never_there EntityDoesNotExist e

has_present : (guarded : Bool) (p : Presence) (t : CedarType) (o : Option Value) (k : Kind) → is_there (Fails k) ≡ truth false → FitsAt p (IsOf t) o →
    (guarded ≡ true → is_there (or_fails k o) ≡ truth true) → IsThere (has_by_presence guarded p) (is_there (or_fails k o))
has_present guarded Required t None k n h g = absurd h
has_present guarded Required t (Some v) k n h g = (true, refl, refl)
has_present true Optional t o k n h g = (true, g refl, refl)
has_present false Optional t (Some v) k n h g = (true, refl, tt)
has_present false Optional t None k n h g = (false, n, tt)

has_recorded : (guarded : Bool) (f : Option Field) (o : Option Value) (k : Kind) → is_there (Fails k) ≡ truth false → FitsField f o → (f ≡ None → o ≡ None) →
    (guarded ≡ true → is_there (or_fails k o) ≡ truth true) → IsThere (has_in_record guarded f) (is_there (or_fails k o))
has_recorded guarded None o k n h c g = (false, ap (λ p. is_there (or_fails k p)) (c refl) ∙ n, refl)
has_recorded guarded (Some f) o k n h c g = has_present guarded f.presence f.type o k n h g

has_of_held : (guarded : Bool) (f : Option Field) (o : Option Value) → (f ≡ None → o ≡ None) →
    (guarded ≡ true → is_there (or_fails EntityAttrDoesNotExist o) ≡ truth true) →
    IsThere (has_in_entity guarded f) (is_there (or_fails EntityAttrDoesNotExist o))
has_of_held guarded None o c g = (false, ap (λ p. is_there (or_fails EntityAttrDoesNotExist p)) (c refl), refl)
has_of_held true (Some f) o c g = (true, g refl, refl)
has_of_held false (Some f) (Some v) c g = (true, refl, tt)
has_of_held false (Some f) None c g = (false, refl, tt)

has_of_missing : (guarded : Bool) (f : Option Field) → (guarded ≡ true → truth false ≡ truth true) → IsThere (has_in_entity guarded f) (truth false)
has_of_missing guarded None g = (false, refl, refl)
has_of_missing true (Some f) g = never_false (g refl)
has_of_missing false (Some f) g = (false, refl, tt)

module _ (e : Environment) (facts : Facts) (request : Request) (conforms : Conforms e.schema facts) where
  abbrev S : Typing → Outcome → Type 0
  S x o = Sounds facts request x o

  -- an entity that is held, of a declared type
  shaped : (u : Uid) (h : Held) (n : Name) (s : EntityShape) → facts.entity u ≡ Some h → u.type_name ≡ n → e.schema.entity n ≡ Some s → IsShaped s h
  shaped u h n s i j k = conforms.entities u h s i (ap e.schema.entity j ∙ k)

  -- ---- `.a`

  optional_sound : (guarded : Bool) (t : CedarType) (o : Option Value) (k : Kind) → is_there (Fails k) ≡ truth false → FitsAt Optional (IsOf t) o →
      (guarded ≡ true → is_there (or_fails k o) ≡ truth true) → S (where_guarded guarded t) (or_fails k o)
  optional_sound true t (Some v) k n h g = (h, λ _. tt)
  optional_sound true t None k n h g = never_false (sym n ∙ g refl)
  optional_sound false t o k n h g = tt

  presence_sound : (guarded : Bool) (p : Presence) (t : CedarType) (o : Option Value) (k : Kind) → is_there (Fails k) ≡ truth false → FitsAt p (IsOf t) o →
      (guarded ≡ true → is_there (or_fails k o) ≡ truth true) → S (by_presence guarded p t) (or_fails k o)
  presence_sound guarded Required t None k n h g = absurd h
  presence_sound guarded Required t (Some v) k n h g = (h, λ _. tt)
  presence_sound guarded Optional t o k n h g = optional_sound guarded t o k n h g

  field_sound : (guarded : Bool) (f : Option Field) (o : Option Value) (k : Kind) → is_there (Fails k) ≡ truth false → FitsField f o →
      (guarded ≡ true → is_there (or_fails k o) ≡ truth true) → S (field_type guarded f) (or_fails k o)
  field_sound guarded None o k n h g = tt
  field_sound guarded (Some f) o k n h g = presence_sound guarded f.presence f.type o k n h g

  get_record : (guarded : Bool) (a : Text) (fs : Fields) (v : Value) → IsOf (Records fs) v → (guarded ≡ true → is_there (attribute facts a v) ≡ truth true) →
      S (field_type guarded (field_at fs a)) (attribute facts a v)
  get_record guarded a fs v h g =
      subst (λ w. S (field_type guarded (field_at fs a)) (attribute facts a w)) (sym h.2)
      (field_sound guarded (field_at fs a) (found h.0 h.1 a) RecordAttrDoesNotExist refl (field_fits fs (found h.0 h.1) a h.3)
      (λ i. ap (λ w. is_there (attribute facts a w)) (sym h.2) ∙ g i))

  get_held : (guarded : Bool) (a : Text) (n : Name) (s : EntityShape) (u : Uid) → e.schema.entity n ≡ Some s → u.type_name ≡ n → (r : Option Held) →
      facts.entity u ≡ r →
      (guarded ≡ true → is_there (attribute_held a r) ≡ truth true) → S (field_type guarded (field_at s.attributes a)) (attribute_held a r)
  get_held guarded a n s u i j None k g = fails_soundly facts request (field_type guarded (field_at s.attributes a)) EntityDoesNotExist tt
  get_held guarded a n s u i j (Some h) k g =
      field_sound guarded (field_at s.attributes a) (h.attribute a) EntityAttrDoesNotExist refl
      (field_fits s.attributes h.attribute a (shaped u h n s k j i).attributes) g

  get_entity : (guarded : Bool) (a : Text) (n : Name) (o : Option EntityShape) → e.schema.entity n ≡ o → (v : Value) → IsOf (Entities n) v →
      (guarded ≡ true → is_there (attribute facts a v) ≡ truth true) → S (get_type guarded a (of_shape o)) (attribute facts a v)
  get_entity guarded a n None i v h g = tt
  get_entity guarded a n (Some s) i v h g =
      subst (λ w. S (field_type guarded (field_at s.attributes a)) (attribute facts a w)) (sym h.1)
      (get_held guarded a n s h.0 i h.2 (facts.entity h.0) refl (λ j. ap (λ w. is_there (attribute facts a w)) (sym h.1) ∙ g j))

  pub get_sound : (guarded : Bool) (a : Text) (t : CedarType) (v : Value) → IsOf t v → (guarded ≡ true → is_there (attribute facts a v) ≡ truth true) →
      S (get_type guarded a (attributes_of e.schema t)) (attribute facts a v)
  get_sound guarded a (Records fs) v h g = get_record guarded a fs v h g
  get_sound guarded a (Entities n) v h g = get_entity guarded a n (e.schema.entity n) refl v h g
  get_sound guarded a t v h g = tt

  -- ---- `has a`

  guard_is : (x : Tree) (a : Text) (v : Value) → meaning facts request x ≡ Gives v →
      meaning facts request (guard (an_attribute x a)) ≡ is_there (attribute facts a v)
  guard_is x a v m = rw m refl

  has_by_sound : (x : Tree) (a : Text) (t : BoolType) (o : Outcome) → meaning facts request (guard (an_attribute x a)) ≡ o → IsThere t o → S (has_by x a t) o
  has_by_sound x a t o m h =
      subst (λ p. S (has_by x a t) p) (sym h.1)
      ((h.0, refl, h.2), λ k. gives_hold facts request t (an_attribute x a ∷ []) (m ∙ h.1 ∙ ap Gives k, tt))

  there_in_record : (guarded : Bool) (a : Text) (fs : Fields) (v : Value) → IsOf (Records fs) v →
      (guarded ≡ true → is_there (attribute facts a v) ≡ truth true) →
      IsThere (has_in_record guarded (field_at fs a)) (is_there (attribute facts a v))
  there_in_record guarded a fs v h g =
      subst (λ w. IsThere (has_in_record guarded (field_at fs a)) (is_there (attribute facts a w))) (sym h.2)
      (has_recorded guarded (field_at fs a) (found h.0 h.1 a) RecordAttrDoesNotExist refl (field_fits fs (found h.0 h.1) a h.3) (h.4 a)
      (λ i. ap (λ w. is_there (attribute facts a w)) (sym h.2) ∙ g i))

  there_held : (guarded : Bool) (a : Text) (n : Name) (s : EntityShape) (u : Uid) → e.schema.entity n ≡ Some s → u.type_name ≡ n → (r : Option Held) →
      facts.entity u ≡ r →
      (guarded ≡ true → is_there (attribute_held a r) ≡ truth true) → IsThere (has_in_entity guarded (field_at s.attributes a)) (is_there (attribute_held a r))
  there_held guarded a n s u i j None k g = has_of_missing guarded (field_at s.attributes a) g
  there_held guarded a n s u i j (Some h) k g = has_of_held guarded (field_at s.attributes a) (h.attribute a) ((shaped u h n s k j i).closed a) g

  there_in_entity : (guarded : Bool) (a : Text) (n : Name) (s : EntityShape) → e.schema.entity n ≡ Some s → (v : Value) → IsOf (Entities n) v →
      (guarded ≡ true → is_there (attribute facts a v) ≡ truth true) → IsThere (has_in_entity guarded (field_at s.attributes a))
      (is_there (attribute facts a v))
  there_in_entity guarded a n s i v h g =
      subst (λ w. IsThere (has_in_entity guarded (field_at s.attributes a)) (is_there (attribute facts a w))) (sym h.1)
      (there_held guarded a n s h.0 i h.2 (facts.entity h.0) refl (λ j. ap (λ w. is_there (attribute facts a w)) (sym h.1) ∙ g j))

  has_shaped : (guarded : Bool) (x : Tree) (a : Text) (n : Name) (o : Option EntityShape) → e.schema.entity n ≡ o → (v : Value) → IsOf (Entities n) v →
      meaning facts request x ≡ Gives v →
      (guarded ≡ true → is_there (attribute facts a v) ≡ truth true) → S (has_type guarded x a (of_shape o)) (is_there (attribute facts a v))
  has_shaped guarded x a n None i v h m g = tt
  has_shaped guarded x a n (Some s) i v h m g =
      has_by_sound x a (has_in_entity guarded (field_at s.attributes a)) (is_there (attribute facts a v)) (guard_is x a v m)
      (there_in_entity guarded a n s i v h g)

  pub has_sound : (guarded : Bool) (x : Tree) (a : Text) (t : CedarType) (v : Value) → IsOf t v → meaning facts request x ≡ Gives v →
      (guarded ≡ true → is_there (attribute facts a v) ≡ truth true) →
      S (has_type guarded x a (attributes_of e.schema t)) (is_there (attribute facts a v))
  has_sound guarded x a (Records fs) v h m g =
      has_by_sound x a (has_in_record guarded (field_at fs a)) (is_there (attribute facts a v)) (guard_is x a v m) (there_in_record guarded a fs v h g)
  has_sound guarded x a (Entities n) v h m g = has_shaped guarded x a n (e.schema.entity n) refl v h m g
  has_sound guarded x a t v h m g = tt

  -- what a capability that is held tells
  told : (x : Tree) (a : Text) (v : Value) (c : Capabilities) → meaning facts request x ≡ Gives v → AllHold facts request c →
      is_among (an_attribute x a) c ≡ true →
      is_there (attribute facts a v) ≡ truth true
  told x a v c m h i = sym (guard_is x a v m) ∙ given_holds facts request (an_attribute x a) c h i

  -- ---- `has a.b.c`

  step_sound : (x : Tree) (b : Text) (bs : List Text) (d : Capabilities) (y : Typing) (q : Outcome) → S y q → is_there q ≡ truth true →
      ((u : CedarType) (w : Value) → IsOf u w → q ≡ Gives w → S (path_type e x b bs d u) (path_from facts bs (attribute facts b w))) →
      S (then_path y (λ u. path_type e x b bs d u)) (path_from facts (b ∷ bs) q)
  step_sound x b bs d (HasType u z) (Gives w) s i ih = ih u w s.0 refl
  step_sound x b bs d (HasType u z) (Fails k) s i ih = never_there k i
  step_sound x b bs d (Faulty f) q s i ih = tt

  got_is : (x : Tree) (a : Text) (v : Value) → meaning facts request x ≡ Gives v → meaning facts request (get x a) ≡ attribute facts a v
  got_is x a v m = rw m refl

  pub path_sound : (as_ : List Text) (x : Tree) (a : Text) (c : Capabilities) (t : CedarType) (v : Value) → IsOf t v → meaning facts request x ≡ Gives v →
      AllHold facts request c →
      S (path_type e x a as_ c t) (path_from facts as_ (attribute facts a v))
  path_sound [] x a c t v h m k = has_sound (is_among (an_attribute x a) c) x a t v h m (told x a v c m k)
  path_sound (b ∷ bs) x a c t v h m k =
      subst (λ q. S (path_type e x a (b ∷ bs) c t) q) (sym (path_is_and facts b bs (attribute facts a v)))
      (and_sound facts request (has_type (is_among (an_attribute x a) c) x a (attributes_of e.schema t)) (is_there (attribute facts a v))
      (λ d. then_path (get_type true a (attributes_of e.schema t)) (λ u. path_type e (get x a) b bs (d ++ c) u))
      (path_from facts (b ∷ bs) (attribute facts a v))
      (has_sound (is_among (an_attribute x a) c) x a t v h m (told x a v c m k))
      (λ w d _ hd is. step_sound (get x a) b bs (d ++ c) (get_type true a (attributes_of e.schema t)) (attribute facts a v)
      (get_sound true a t v h (λ _. is)) is
      (λ u y hy iy. path_sound bs (get x a) b (d ++ c) u y hy (got_is x a v m ∙ iy) (hold_all facts request d c hd k))))

  -- ---- the operators

  get_at : (a : Text) (x : Tree) (t : CedarType) (vs : Values) (c : Capabilities) → AreOf (t ∷ []) vs →
      meanings facts request (a_tree x no_trees) ≡ GivesAll vs → AllHold facts request c →
      S (get_type (is_among (an_attribute x a) c) a (attributes_of e.schema t)) (attribute_of facts a vs)
  get_at a x t no_values c h m k = absurd h
  get_at a x t (a_value v no_values) c h m k =
      get_sound (is_among (an_attribute x a) c) a t v h.0 (told x a v c (first_means (meaning facts request x) (GivesAll no_values) v no_values m).0 k)
  get_at a x t (a_value v (a_value w ws)) c h m k = absurd h.1

  pub attribute_sound : (a : Text) (xs : Trees) (ts : List CedarType) (vs : Values) (c : Capabilities) → AreOf ts vs →
      meanings facts request xs ≡ GivesAll vs → AllHold facts request c →
      S (attribute_type e a xs ts c) (attribute_of facts a vs)
  attribute_sound a (a_tree x no_trees) (t ∷ []) vs c h m k = get_at a x t vs c h m k
  attribute_sound a xs ts vs c h m k = tt

  has_at : (a : Text) (x : Tree) (t : CedarType) (vs : Values) (c : Capabilities) → AreOf (t ∷ []) vs →
      meanings facts request (a_tree x no_trees) ≡ GivesAll vs → AllHold facts request c →
      S (has_type (is_among (an_attribute x a) c) x a (attributes_of e.schema t)) (has_of facts a vs)
  has_at a x t no_values c h m k = absurd h
  has_at a x t (a_value v no_values) c h m k =
      let is = (first_means (meaning facts request x) (GivesAll no_values) v no_values m).0 in
      has_sound (is_among (an_attribute x a) c) x a t v h.0 is (told x a v c is k)
  has_at a x t (a_value v (a_value w ws)) c h m k = absurd h.1

  pub has_attribute_sound : (a : Text) (xs : Trees) (ts : List CedarType) (vs : Values) (c : Capabilities) → AreOf ts vs →
      meanings facts request xs ≡ GivesAll vs → AllHold facts request c →
      S (has_attribute_type e a xs ts c) (has_of facts a vs)
  has_attribute_sound a (a_tree x no_trees) (t ∷ []) vs c h m k = has_at a x t vs c h m k
  has_attribute_sound a xs ts vs c h m k = tt

  path_at : (a : Text) (as_ : List Text) (x : Tree) (t : CedarType) (vs : Values) (c : Capabilities) → AreOf (t ∷ []) vs →
      meanings facts request (a_tree x no_trees) ≡ GivesAll vs → AllHold facts request c →
      S (path_type e x a as_ c t) (has_path_of facts a as_ vs)
  path_at a as_ x t no_values c h m k = absurd h
  path_at a as_ x t (a_value v no_values) c h m k =
      path_sound as_ x a c t v h.0 (first_means (meaning facts request x) (GivesAll no_values) v no_values m).0 k
  path_at a as_ x t (a_value v (a_value w ws)) c h m k = absurd h.1

  pub has_path_sound : (a : Text) (as_ : List Text) (xs : Trees) (ts : List CedarType) (vs : Values) (c : Capabilities) → AreOf ts vs →
      meanings facts request xs ≡ GivesAll vs → AllHold facts request c →
      S (has_path_type e a as_ xs ts c) (has_path_of facts a as_ vs)
  has_path_sound a as_ (a_tree x no_trees) (t ∷ []) vs c h m k = path_at a as_ x t vs c h m k
  has_path_sound a as_ xs ts vs c h m k = tt

  -- ---- tags

  tag_fits : (t : CedarType) (o : Option Value) → ((v : Value) → o ≡ Some v → IsOf t v) → (guarded : Bool) →
      (guarded ≡ true → is_there (or_fails EntityAttrDoesNotExist o) ≡ truth true) →
      S (where_tag_guarded guarded t) (or_fails EntityAttrDoesNotExist o)
  tag_fits t (Some v) f true g = (f v refl, λ _. tt)
  tag_fits t None f true g = never_false (g refl)
  tag_fits t o f false g = tt

  tag_found : (key : Text) (tags : Option CedarType) (guarded : Bool) (h : Held) → TagsFit tags h.tag →
      (guarded ≡ true → is_there (or_fails EntityAttrDoesNotExist (h.tag key)) ≡ truth true) →
      S (tag_type guarded tags) (or_fails EntityAttrDoesNotExist (h.tag key))
  tag_found key (Some t) guarded h f g = tag_fits t (h.tag key) (f key) guarded g
  tag_found key None guarded h f g = tt

  get_tag_held : (guarded : Bool) (key : Text) (n : Name) (o : Option EntityShape) → e.schema.entity n ≡ o → (u : Uid) → u.type_name ≡ n → (r : Option Held) →
      facts.entity u ≡ r →
      (guarded ≡ true → is_there (tag_held key r) ≡ truth true) → S (tag_type guarded (tags_of o)) (tag_held key r)
  get_tag_held guarded key n o i u j None k g = fails_soundly facts request (tag_type guarded (tags_of o)) EntityDoesNotExist tt
  get_tag_held guarded key n None i u j (Some h) k g = tt
  get_tag_held guarded key n (Some s) i u j (Some h) k g = tag_found key s.tags guarded h (shaped u h n s k j i).tags g

  tag_guard : (x k : Tree) (vs : Values) → meanings facts request (a_tree x (a_tree k no_trees)) ≡ GivesAll vs →
      meaning facts request (guard (a_tag x k)) ≡ is_there (tag_of facts vs)
  tag_guard x k vs m = rw m refl

  get_tag_at : (x k : Tree) (n : Name) (v w : Value) (c : Capabilities) → IsOf (Entities n) v → IsOf Strings w →
      meanings facts request (a_tree x (a_tree k no_trees)) ≡ GivesAll (a_value v (a_value w no_values)) →
      AllHold facts request c → S (tag_type (is_among (a_tag x k) c) (tags_of (e.schema.entity n))) (tag_of facts (a_value v (a_value w no_values)))
  get_tag_at x k n v w c h i m j =
      let operands = ap (λ y. a_value y (a_value w no_values)) h.1 ∙ ap (λ y. a_value (Plain (Entity h.0)) (a_value y no_values)) i.1 in
      subst (λ p. S (tag_type (is_among (a_tag x k) c) (tags_of (e.schema.entity n))) (tag_of facts p)) (sym operands)
      (get_tag_held (is_among (a_tag x k) c) i.0 n (e.schema.entity n) refl h.0 h.2 (facts.entity h.0) refl
      (λ q. ap (λ p. is_there (tag_of facts p)) (sym operands) ∙ sym (tag_guard x k _ m) ∙ given_holds facts request (a_tag x k) c j q))

  get_tag_two : (x k : Tree) (n : Name) (vs : Values) (c : Capabilities) → AreOf (Entities n ∷ Strings ∷ []) vs →
      meanings facts request (a_tree x (a_tree k no_trees)) ≡ GivesAll vs →
      AllHold facts request c → S (tag_type (is_among (a_tag x k) c) (tags_of (e.schema.entity n))) (tag_of facts vs)
  get_tag_two x k n no_values c h m j = absurd h
  get_tag_two x k n (a_value v no_values) c h m j = absurd h.1
  get_tag_two x k n (a_value v (a_value w no_values)) c h m j = get_tag_at x k n v w c h.0 h.1.0 m j
  get_tag_two x k n (a_value v (a_value w (a_value y ys))) c h m j = absurd h.1.1

  pub get_tag_sound : (xs : Trees) (ts : List CedarType) (vs : Values) (c : Capabilities) → AreOf ts vs → meanings facts request xs ≡ GivesAll vs →
      AllHold facts request c →
      S (get_tag_type e xs ts c) (tag_of facts vs)
  get_tag_sound (a_tree x (a_tree k no_trees)) (Entities n ∷ Strings ∷ []) vs c h m j = get_tag_two x k n vs c h m j
  get_tag_sound xs ts vs c h m j = tt

  -- what `hasTag` gives
  tag_there : (guarded : Bool) (x k : Tree) (tags : Option CedarType) (o : Outcome) → meaning facts request (guard (a_tag x k)) ≡ o → (b : Bool) →
      o ≡ truth b → (tags ≡ None → b ≡ false) → (guarded ≡ true → b ≡ true) →
      S (has_tag_by guarded x k tags) o
  tag_there guarded x k None o m b i f g = subst (λ p. S (has_tag_by guarded x k None) p) (sym i) ((b, refl, f refl), λ _. tt)
  tag_there true x k (Some t) o m b i f g = subst (λ p. S (has_tag_by true x k (Some t)) p) (sym i) ((b, refl, g refl), λ q. (m ∙ i ∙ ap Gives q, tt))
  tag_there false x k (Some t) o m b i f g = subst (λ p. S (has_tag_by false x k (Some t)) p) (sym i) ((b, refl, tt), λ q. (m ∙ i ∙ ap Gives q, tt))

  some_none : (v : Value) → Some v ≡ None → ⊥
  some_none v h = cc

  -- whether a tag is there
  is_tagged : (key : Text) (tags : Option CedarType) (look : Text → Option Value) → TagsFit tags look → (o : Option Value) → look key ≡ o →
      (b : Bool) × (is_there (or_fails EntityAttrDoesNotExist o) ≡ truth b) × (tags ≡ None → b ≡ false)
  is_tagged key None look f (Some v) i = absurd (some_none v (sym i ∙ f key))
  is_tagged key (Some t) look f (Some v) i = (true, refl, λ h. cc)
  is_tagged key tags look f None i = (false, refl, λ _. refl)

  tagged_held : (key : Text) (n : Name) (s : EntityShape) → e.schema.entity n ≡ Some s → (u : Uid) → u.type_name ≡ n → (r : Option Held) → facts.entity u ≡ r →
      (b : Bool) × (is_there (tag_held key r) ≡ truth b) × (s.tags ≡ None → b ≡ false)
  tagged_held key n s i u j None k = (false, refl, λ _. refl)
  tagged_held key n s i u j (Some h) k = is_tagged key s.tags h.tag (shaped u h n s k j i).tags (h.tag key) refl

  tagged : (n : Name) (s : EntityShape) → e.schema.entity n ≡ Some s → (v w : Value) → IsOf (Entities n) v → IsOf Strings w →
      (b : Bool) × (is_there (tag_of facts (a_value v (a_value w no_values))) ≡ truth b) × (s.tags ≡ None → b ≡ false)
  tagged n s i v w h k = rw (h.1, k.1) (tagged_held k.0 n s i h.0 h.2 (facts.entity h.0) refl)

  truth_is : (b c : Bool) → truth b ≡ truth c → b ≡ c
  truth_is true true h = refl
  truth_is false false h = refl
  truth_is true false h = never_false (sym h)
  truth_is false true h = never_false h

  has_tag_shaped : (x k : Tree) (n : Name) (o : Option EntityShape) → e.schema.entity n ≡ o → (v w : Value) (c : Capabilities) → IsOf (Entities n) v →
      IsOf Strings w →
      meanings facts request (a_tree x (a_tree k no_trees)) ≡ GivesAll (a_value v (a_value w no_values)) → AllHold facts request c →
      S (where_shaped o (λ s. has_tag_by (is_among (a_tag x k) c) x k s.tags)) (is_there (tag_of facts (a_value v (a_value w no_values))))
  has_tag_shaped x k n None i v w c h j m q = tt
  has_tag_shaped x k n (Some s) i v w c h j m q =
      let b = tagged n s i v w h j in
      tag_there (is_among (a_tag x k) c) x k s.tags (is_there (tag_of facts (a_value v (a_value w no_values)))) (tag_guard x k _ m) b.0 b.1 b.2
      (λ r. truth_is b.0 true (sym b.1 ∙ sym (tag_guard x k _ m) ∙ given_holds facts request (a_tag x k) c q r))

  has_tag_two : (x k : Tree) (n : Name) (vs : Values) (c : Capabilities) → AreOf (Entities n ∷ Strings ∷ []) vs →
      meanings facts request (a_tree x (a_tree k no_trees)) ≡ GivesAll vs →
      AllHold facts request c → S (where_shaped (e.schema.entity n) (λ s. has_tag_by (is_among (a_tag x k) c) x k s.tags)) (is_there (tag_of facts vs))
  has_tag_two x k n no_values c h m j = absurd h
  has_tag_two x k n (a_value v no_values) c h m j = absurd h.1
  has_tag_two x k n (a_value v (a_value w no_values)) c h m j = has_tag_shaped x k n (e.schema.entity n) refl v w c h.0 h.1.0 m j
  has_tag_two x k n (a_value v (a_value w (a_value y ys))) c h m j = absurd h.1.1

  pub has_tag_sound : (xs : Trees) (ts : List CedarType) (vs : Values) (c : Capabilities) → AreOf ts vs → meanings facts request xs ≡ GivesAll vs →
      AllHold facts request c →
      S (has_tag_type e xs ts c) (is_there (tag_of facts vs))
  has_tag_sound (a_tree x (a_tree k no_trees)) (Entities n ∷ Strings ∷ []) vs c h m j = has_tag_two x k n vs c h m j
  has_tag_sound xs ts vs c h m j = tt
