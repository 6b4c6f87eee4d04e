-- Where no common type is within itself, each unfolds.
use Rattle.std.proofs.Common.{◌≡◌, ◌⊎◌, inl, inr, ℕ, zero, suc, ◌+◌, ◌≤◌, Bool, true, false, cond, ◌||◌, List, [], ◌∷◌, ◌++◌, length, Option, Some, None, refl, sym, ap, ◌∙◌, subst, arith}
use Rattle.std.specs.Prelude.{map, is_some, is_none, option_map}
use Rattle.std.specs.List.{find, list_any}
use Rattle.std.specs.declared.cmp.Ordering.{Ordering}
use Rattle.std.specs.declared.cmp.Ordering.TheVariants as ordering
use Rattle.cedar_language.specs.Uid.{Text, Name}
use Rattle.cedar_language.specs.Order.{text_cmp, same_text, same_name}
use Rattle.cedar_language.specs.OrderLaws.{text_cmp_same}
use Rattle.cedar_language.specs.Facts.{Reaches, edge}
use Rattle.cedar_typing.specs.Types.{Presence, CedarType, Entities, Sets, Records, Fields, no_fields, a_field}
use Rattle.cedar_language.proofs.Booleans.{or_left, or_right}
use Rattle.cedar_typing.proofs.Sameness.{name_is, text_same, name_same}
use Rattle.cedar_schema_grammar.specs.Syntax.{TypeSyntax, named, a_set, a_record, AttributesSyntax, no_attributes, an_attribute}
use Rattle.cedar_schema_grammar.specs.Declared.{Library, CommonType, Declared, type_name, type_at, or_else, first_of, places, Referent, to_common, to_type, built_in_path, declared_as, entity_name, entity_at, referent}
use Rattle.cedar_schema_grammar.specs.Written.{placed, put_field, with_field, stands_for, written, written_fields, unfolded, common_name, mentions, mentions_in, mentioned, refers}
use Rattle.cedar_schema_grammar.specs.Faults.{SchemaFault, where_true, repeated, attribute_names, duplicate_attributes, type_faults, attribute_faults}
use Rattle.cedar_schema_grammar.specs.Reaching.{IsAmong, Edge}
use Rattle.cedar_schema_grammar.proofs.Pigeons.{AllApart, AllAmong, no_more_than}
use Rattle.cedar_schema_grammar.proofs.Reaching.{among_front, among_back, found_among, reaches_on}

-- ---- lists without members

pub first_empty : {A : Type 0} (xs ys : List A) → xs ++ ys ≡ [] → xs ≡ []
first_empty [] ys e = refl
first_empty (x ∷ xs) ys e = absurd (cc e)

pub second_empty : {A : Type 0} (xs ys : List A) → xs ++ ys ≡ [] → ys ≡ []
second_empty [] ys e = e
second_empty (x ∷ xs) ys e = absurd (cc e)

pub not_told : (b : Bool) (f : SchemaFault) → where_true b f ≡ [] → b ≡ false
not_told true f e = absurd (cc e)
not_told false f e = refl

-- ---- what names stand for

or_else_is : {A : Type 0} (o p : Option A) (x : A) → or_else o p ≡ Some x → (o ≡ Some x) ⊎ (p ≡ Some x)
or_else_is (Some y) p x e = inl e
or_else_is None p x e = inr e

pub first_is : {A B : Type 0} (f : A → Option B) (xs : List A) (b : B) → first_of f xs ≡ Some b → (x : A) × (f x ≡ Some b)
first_is f [] b e = absurd (cc e)
first_is {A} f (x ∷ xs) b e = by (or_else_is (f x) (first_of f xs) b e) (first_is f xs b)
  where
    by : (f x ≡ Some b) ⊎ (first_of f xs ≡ Some b) → (first_of f xs ≡ Some b → (y : A) × (f y ≡ Some b)) → (y : A) × (f y ≡ Some b)
    by (inl g) ih = (x, g)
    by (inr g) ih = ih g

no_common : {A : Type 0} (f : A → CedarType) (o : Option A) (u : CommonType) → option_map (λ x. to_type (f x)) o ≡ Some (to_common u) → ⊥
no_common f (Some x) u e = cc e
no_common f None u e = cc e

pub found_passes : {A : Type 0} (test : A → Bool) (xs : List A) (x : A) → find test xs ≡ Some x → (test x ≡ true) × IsAmong x xs
found_passes test [] x e = absurd (cc e)
found_passes test (y ∷ ys) x e = by (test y) refl e (found_passes test ys x)
  where
    by : (b : Bool) → test y ≡ b → find test (y ∷ ys) ≡ Some x → (find test ys ≡ Some x → (test x ≡ true) × IsAmong x ys) → (test x ≡ true) × IsAmong x (y ∷ ys)
    by true f g ih = let same : y ≡ x = cc (rw (f, find) at g) in (subst (λ z. test z ≡ true) same f, inl (sym same))
    by false f g ih = let r = ih (rw (f, find) at g) in (r.0, inr r.1)

module _ (d : Declared) (l : Library) where
  -- a common type that is found stands under its own name
  pub stands_under_its_name : (m : Name) (u : CommonType) → type_at d m ≡ Some u → type_at d (type_name u) ≡ Some u
  stands_under_its_name m u e =
      let r = found_passes (λ t. same_name (type_name t) m) d.types u e in
      subst (λ k. type_at d k ≡ Some u) (sym (name_is (type_name u) m r.0)) e

  common_is : (o : Option CommonType) (u : CommonType) → option_map to_common o ≡ Some (to_common u) → o ≡ Some u
  common_is (Some t) u f = let same : t ≡ u = cc f in ap Some same
  common_is None u f = absurd (cc f)

  declared_is : (m : Name) (u : CommonType) → declared_as d m ≡ Some (to_common u) → type_at d m ≡ Some u
  declared_is m u e = by (or_else_is (option_map to_common (type_at d m)) (option_map (λ x. to_type (Entities (entity_name x))) (entity_at d m)) (to_common u) e)
    where
      by : (option_map to_common (type_at d m) ≡ Some (to_common u)) ⊎ (option_map (λ x. to_type (Entities (entity_name x))) (entity_at d m) ≡ Some (to_common u)) → type_at d m ≡ Some u
      by (inl f) = common_is (type_at d m) u f
      by (inr f) = absurd (no_common (λ x. Entities (entity_name x)) (entity_at d m) u f)

  pub referent_is : (namespace n : Name) (u : CommonType) → referent d l namespace n ≡ Some (to_common u) → type_at d (type_name u) ≡ Some u
  referent_is namespace n u e = by (or_else_is (first_of (declared_as d) (places namespace n)) (option_map to_type (built_in_path l n)) (to_common u) e)
    where
      by : (first_of (declared_as d) (places namespace n) ≡ Some (to_common u)) ⊎ (option_map to_type (built_in_path l n) ≡ Some (to_common u)) → type_at d (type_name u) ≡ Some u
      by (inl f) = let m = first_is (declared_as d) (places namespace n) (to_common u) f in stands_under_its_name m.0 u (declared_is m.0 u m.1)
      by (inr f) = absurd (no_common (λ t. t) (built_in_path l n) u f)

-- ---- fields

abbrev pub keys : Fields → List Text
keys no_fields = []
keys (a_field k p t fs) = k ∷ keys fs

-- fields, and none but a key more than others have
record Placed (k : Text) (fs : Fields) (o : Option Fields) : Type 0 where
  pub fields : Fields
  pub is : o ≡ Some fields
  pub within : (a : Text) → IsAmong a (keys fields) → (a ≡ k) ⊎ IsAmong a (keys fs)

put_some : (k : Text) (p : Presence) (t : CedarType) (fs : Fields) → (IsAmong k (keys fs) → ⊥) → Placed k fs (put_field k p t fs)
put_some k p t no_fields apart = record { fields = a_field k p t no_fields; is = refl; within = λ a m. m }
put_some k p t (a_field j q u fs) apart = by (text_cmp k j) refl (put_some k p t fs (λ m. apart (inr m)))
  where
    more : (a : Text) (gs : Fields) → ((b : Text) → IsAmong b (keys gs) → (b ≡ k) ⊎ IsAmong b (keys fs)) → (a ≡ j) ⊎ IsAmong a (keys gs) → (a ≡ k) ⊎ IsAmong a (keys (a_field j q u fs))
    more a gs f (inl e) = inr (inl e)
    more a gs f (inr m) = last (f a m)
      where
        last : (a ≡ k) ⊎ IsAmong a (keys fs) → (a ≡ k) ⊎ IsAmong a (keys (a_field j q u fs))
        last (inl e) = inl e
        last (inr n) = inr (inr n)

    by : (o : Ordering) → text_cmp k j ≡ o → Placed k fs (put_field k p t fs) → Placed k (a_field j q u fs) (placed o k p t j q u fs (put_field k p t fs))
    by ordering.Less e r = record { fields = a_field k p t (a_field j q u fs); is = refl; within = λ a m. m }
    by ordering.Equal e r = absurd (apart (inl (text_cmp_same k j e)))
    by ordering.Greater e r = record { fields = a_field j q u r.fields; is = ap (option_map (a_field j q u)) r.is; within = λ a m. more a r.fields r.within m }

neither : (a b : Bool) → (a || b) ≡ false → (a ≡ false) × (b ≡ false)
neither true b e = absurd (cc e)
neither false b e = (refl, e)

-- a key that isn't repeated isn't among those after it
not_among : (k : Text) (ks : List Text) → list_any (same_text k) ks ≡ false → IsAmong k ks → ⊥
not_among k [] e m = m
not_among k (j ∷ ks) e (inl f) =
    let g : true ≡ false = sym (subst (λ x. same_text k x ≡ true) f (text_same k)) ∙ (neither (same_text k j) (list_any (same_text k) ks) e).0 in
    cc g
not_among k (j ∷ ks) e (inr m) = not_among k ks (neither (same_text k j) (list_any (same_text k) ks) e).1 m

not_repeated : {A : Type 0} (b : Bool) (x : A) (xs : List A) → cond b (x ∷ xs) xs ≡ [] → (b ≡ false) × (xs ≡ [])
not_repeated true x xs e = absurd (cc e)
not_repeated false x xs e = (refl, e)

map_empty : {A B : Type 0} (f : A → B) (xs : List A) → map f xs ≡ [] → xs ≡ []
map_empty f [] e = refl
map_empty f (x ∷ xs) e = absurd (cc e)

pub some_is : {A : Type 0} (o : Option A) → is_some o ≡ true → (x : A) × (o ≡ Some x)
some_is (Some x) e = (x, refl)
some_is None e = absurd (cc e)

with_some : (k : Text) (p : Presence) (o : Option CedarType) (q : Option Fields) (x : CedarType) (fs gs : Fields) → o ≡ Some x → q ≡ Some fs → put_field k p x fs ≡ Some gs → with_field k p o q ≡ Some gs
with_some k p o q x fs gs e f g = subst (λ a. with_field k p a q ≡ Some gs) (sym e) (subst (λ b. with_field k p (Some x) b ≡ Some gs) (sym f) g)

-- ---- written types

module _ (d : Declared) (l : Library) (common : CommonType → Option CedarType) where
  -- the common types of these names have types
  abbrev pub HaveTypes : List Name → Type 0
  HaveTypes ns = (u : CommonType) → type_at d (type_name u) ≡ Some u → IsAmong (type_name u) ns → is_some (common u) ≡ true

  pub record AreWritten (namespace : Name) (xs : AttributesSyntax) : Type 0 where
    pub fields : Fields
    pub is : written_fields common d l namespace xs ≡ Some fields
    pub within : (a : Text) → IsAmong a (keys fields) → IsAmong a (attribute_names xs)

  name_some : (namespace n : Name) → HaveTypes (mentions d l namespace (named n)) → (o : Option Referent) → referent d l namespace n ≡ o → is_none o ≡ false → is_some (stands_for common o) ≡ true
  name_some namespace n f (Some (to_common u)) r i = f u (referent_is d l namespace n u r) (subst (λ q. IsAmong (type_name u) (common_name q)) (sym r) (inl refl))
  name_some namespace n f (Some (to_type t)) r i = refl
  name_some namespace n f None r i = absurd (cc i)

  one_more : (namespace : Name) (k : Text) (p : Presence) (t : TypeSyntax) (xs : AttributesSyntax) (x : CedarType) → written common d l namespace t ≡ Some x → list_any (same_text k) (attribute_names xs) ≡ false → AreWritten namespace xs → AreWritten namespace (an_attribute k p t xs)
  one_more namespace k p t xs x e n r =
      let q = put_some k p x r.fields (λ m. not_among k (attribute_names xs) n (r.within k m)) in
      record { fields = q.fields; is = with_some k p (written common d l namespace t) (written_fields common d l namespace xs) x r.fields q.fields e r.is q.is; within = λ a m. either a (q.within a m) }
    where
      either : (a : Text) → (a ≡ k) ⊎ IsAmong a (keys r.fields) → (a ≡ k) ⊎ IsAmong a (attribute_names xs)
      either a (inl f) = inl f
      either a (inr m) = inr (r.within a m)

  mutual
    pub written_some : (namespace : Name) (t : TypeSyntax) → type_faults d l namespace t ≡ [] → HaveTypes (mentions d l namespace t) → is_some (written common d l namespace t) ≡ true
    written_some namespace (named n) e f = name_some namespace n f (referent d l namespace n) refl (not_told (is_none (referent d l namespace n)) _ e)
    written_some namespace (a_set t) e f =
        let x = some_is (written common d l namespace t) (written_some namespace t e f) in
        subst (λ o. is_some (option_map Sets o) ≡ true) (sym x.1) refl
    written_some namespace (a_record xs) e f =
        let once = map_empty _ (repeated same_text (attribute_names xs)) (first_empty (duplicate_attributes xs) (attribute_faults d l namespace xs) e) in
        let r = fields_some namespace xs (second_empty (duplicate_attributes xs) (attribute_faults d l namespace xs) e) once f in
        subst (λ o. is_some (option_map Records o) ≡ true) (sym r.is) refl

    fields_some : (namespace : Name) (xs : AttributesSyntax) → attribute_faults d l namespace xs ≡ [] → repeated same_text (attribute_names xs) ≡ [] → HaveTypes (mentions_in d l namespace xs) → AreWritten namespace xs
    fields_some namespace no_attributes e once f = record { fields = no_fields; is = refl; within = λ a m. m }
    fields_some namespace (an_attribute k p t xs) e once f =
        let n = not_repeated (list_any (same_text k) (attribute_names xs)) k (repeated same_text (attribute_names xs)) once in
        let x = some_is (written common d l namespace t) (written_some namespace t (first_empty (type_faults d l namespace t) (attribute_faults d l namespace xs) e) (λ u s m. f u s (among_front (type_name u) (mentions d l namespace t) (mentions_in d l namespace xs) m))) in
        let r = fields_some namespace xs (second_empty (type_faults d l namespace t) (attribute_faults d l namespace xs) e) n.1 (λ u s m. f u s (among_back (type_name u) (mentions d l namespace t) (mentions_in d l namespace xs) m)) in
        one_more namespace k p t xs x.0 x.1 n.0 r

-- ---- what a common type stands for

pub among_any : (m : Name) (ks : List Name) → IsAmong m ks → list_any (same_name m) ks ≡ true
among_any m [] a = absurd a
among_any m (k ∷ ks) (inl e) = or_left (same_name m k) (list_any (same_name m) ks) (subst (λ x. same_name m x ≡ true) e (name_same m))
among_any m (k ∷ ks) (inr a) = or_right (same_name m k) (list_any (same_name m) ks) (among_any m ks a)

module _ (d : Declared) (l : Library) where
  abbrev pub Leads : Name → Name → Type 0
  Leads = Reaches (Edge (refers d l))

  pub refers_if : (n m : Name) (t : CommonType) → type_at d n ≡ Some t → IsAmong m (mentions d l t.namespace t.type) → refers d l n m ≡ true
  refers_if n m t e a = subst (λ o. list_any (same_name m) (mentioned d l o) ≡ true) (sym e) (among_any m (mentions d l t.namespace t.type) a)

  abbrev pub AllLead : List Name → Name → Type 0
  AllLead [] n = Unit {0}
  AllLead (s ∷ ss) n = Leads s n × AllLead ss n

  lead_on : (seen : List Name) (n m : Name) → refers d l n m ≡ true → AllLead seen n → AllLead seen m
  lead_on [] n m e h = tt
  lead_on (s ∷ ss) n m e h = (reaches_on (refers d l) s n m h.0 (edge e), lead_on ss n m e h.1)

  module _ (acyclic : (n : Name) → Leads n n → ⊥) where
    not_seen : (n : Name) (seen : List Name) → AllLead seen n → IsAmong n seen → ⊥
    not_seen n [] h m = m
    not_seen n (s ∷ ss) h (inl e) = acyclic n (subst (λ x. Leads x n) (sym e) h.0)
    not_seen n (s ∷ ss) h (inr m) = not_seen n ss h.1 m

    name_among : (t : CommonType) → type_at d (type_name t) ≡ Some t → IsAmong (type_name t) (map type_name d.types)
    name_among t e = found_among type_name same_name name_is d.types (type_name t) (ap is_some e)

    -- by how many common types are left that don't lead to it
    pub unfolds : ((t : CommonType) → type_at d (type_name t) ≡ Some t → type_faults d l t.namespace t.type ≡ []) →
        (k : ℕ) (t : CommonType) → type_at d (type_name t) ≡ Some t → (seen : List Name) → AllApart seen → AllAmong seen (map type_name d.types) → AllLead seen (type_name t) →
        length (map type_name d.types) ≤ k + length seen → is_some (unfolded k d l t) ≡ true
    unfolds clean zero t e seen apart among lead h =
        let many = no_more_than (type_name t ∷ seen) (map type_name d.types) (not_seen (type_name t) seen lead, apart) (name_among t e, among) in
        absurd (omega arith)
    unfolds clean (suc k) t e seen apart among lead h =
        written_some d l (λ u. unfolded k d l u) t.namespace t.type (clean t e)
        (λ u s m. let step = refers_if (type_name t) (type_name u) t e m in unfolds clean k u s (type_name t ∷ seen) (not_seen (type_name t) seen lead, apart) (name_among t e, among) (edge step, lead_on seen (type_name t) (type_name u) step lead) (omega arith))

-- ---- deeper is the same

pub map_is : {A B : Type 0} (f : A → B) (o : Option A) (b : B) → option_map f o ≡ Some b → (a : A) × (o ≡ Some a) × (f a ≡ b)
map_is f None b e = absurd (cc e)
map_is f (Some a) b e = (a, refl, cc e)

with_is : (k : Text) (p : Presence) (o : Option CedarType) (q : Option Fields) (gs : Fields) → with_field k p o q ≡ Some gs → (x : CedarType) × (fs : Fields) × (o ≡ Some x) × (q ≡ Some fs) × (put_field k p x fs ≡ Some gs)
with_is k p (Some x) (Some fs) gs e = (x, fs, refl, refl, e)
with_is k p None q gs e = absurd (cc e)
with_is k p (Some x) None gs e = absurd (cc e)

module _ (d : Declared) (l : Library) (c e : CommonType → Option CedarType) (more : (u : CommonType) (x : CedarType) → c u ≡ Some x → e u ≡ Some x) where
  stands_more : (o : Option Referent) (x : CedarType) → stands_for c o ≡ Some x → stands_for e o ≡ Some x
  stands_more None x h = absurd (cc h)
  stands_more (Some (to_common u)) x h = more u x h
  stands_more (Some (to_type t)) x h = h

  mutual
    written_more : (namespace : Name) (t : TypeSyntax) (x : CedarType) → written c d l namespace t ≡ Some x → written e d l namespace t ≡ Some x
    written_more namespace (named n) x h = stands_more (referent d l namespace n) x h
    written_more namespace (a_set t) x h =
        let m = map_is Sets (written c d l namespace t) x h in ap (option_map Sets) (written_more namespace t m.0 m.1) ∙ ap Some m.2
    written_more namespace (a_record xs) x h =
        let m = map_is Records (written_fields c d l namespace xs) x h in ap (option_map Records) (fields_more namespace xs m.0 m.1) ∙ ap Some m.2

    fields_more : (namespace : Name) (xs : AttributesSyntax) (fs : Fields) → written_fields c d l namespace xs ≡ Some fs → written_fields e d l namespace xs ≡ Some fs
    fields_more namespace no_attributes fs h = h
    fields_more namespace (an_attribute k p t xs) fs h =
        let m = with_is k p (written c d l namespace t) (written_fields c d l namespace xs) fs h in
        with_some k p (written e d l namespace t) (written_fields e d l namespace xs) m.0 m.1 fs (written_more namespace t m.0 m.2) (fields_more namespace xs m.1 m.3) m.4

pub deeper_is_the_same : (d : Declared) (l : Library) (k : ℕ) (t : CommonType) (x : CedarType) → unfolded k d l t ≡ Some x → unfolded (suc k) d l t ≡ Some x
deeper_is_the_same d l zero t x h = absurd (cc h)
deeper_is_the_same d l (suc k) t x h = written_more d l (λ u. unfolded k d l u) (λ u. unfolded (suc k) d l u) (λ u y. deeper_is_the_same d l k u y) t.namespace t.type x h

-- ---- as deep as there are common types is deep enough

-- where two ways to unfold agree on what is mentioned, both write the same
module _ (d : Declared) (l : Library) (c e : CommonType → Option CedarType) where
  abbrev pub Agree : List Name → Type 0
  Agree ns = (u : CommonType) → type_at d (type_name u) ≡ Some u → IsAmong (type_name u) ns → c u ≡ e u

  stands_alike : (namespace n : Name) (o : Option Referent) → referent d l namespace n ≡ o → Agree (common_name o) → stands_for c o ≡ stands_for e o
  stands_alike namespace n None r a = refl
  stands_alike namespace n (Some (to_common u)) r a = a u (referent_is d l namespace n u r) (inl refl)
  stands_alike namespace n (Some (to_type t)) r a = refl

  mutual
    pub written_alike : (namespace : Name) (t : TypeSyntax) → Agree (mentions d l namespace t) → written c d l namespace t ≡ written e d l namespace t
    written_alike namespace (named n) a = stands_alike namespace n (referent d l namespace n) refl a
    written_alike namespace (a_set t) a = ap (option_map Sets) (written_alike namespace t a)
    written_alike namespace (a_record xs) a = ap (option_map Records) (fields_alike namespace xs a)

    fields_alike : (namespace : Name) (xs : AttributesSyntax) → Agree (mentions_in d l namespace xs)
        → written_fields c d l namespace xs ≡ written_fields e d l namespace xs
    fields_alike namespace no_attributes a = refl
    fields_alike namespace (an_attribute k p t xs) a =
        ap (λ o. with_field k p o (written_fields c d l namespace xs))
        (written_alike namespace t (λ u s m. a u s (among_front (type_name u) (mentions d l namespace t) (mentions_in d l namespace xs) m)))
        ∙ ap (with_field k p (written e d l namespace t))
        (fields_alike namespace xs (λ u s m. a u s (among_back (type_name u) (mentions d l namespace t) (mentions_in d l namespace xs) m)))

module _ (d : Declared) (l : Library) (acyclic : (n : Name) → Leads d l n n → ⊥) where
  -- by how many common types are left that don't lead to it
  pub settles : (k : ℕ) (t : CommonType) → type_at d (type_name t) ≡ Some t → (seen : List Name) → AllApart seen
      → AllAmong seen (map type_name d.types) → AllLead d l seen (type_name t) →
      length (map type_name d.types) ≤ k + length seen → unfolded k d l t ≡ unfolded (suc k) d l t
  settles zero t e seen apart among lead h =
      let many = no_more_than (type_name t ∷ seen) (map type_name d.types) (not_seen d l acyclic (type_name t) seen lead, apart)
      (name_among d l acyclic t e, among) in
      absurd (omega arith)
  settles (suc k) t e seen apart among lead h =
      written_alike d l (λ u. unfolded k d l u) (λ u. unfolded (suc k) d l u) t.namespace t.type
      (λ u s m. let step = refers_if d l (type_name t) (type_name u) t e m in settles k u s (type_name t ∷ seen)
      (not_seen d l acyclic (type_name t) seen lead, apart) (name_among d l acyclic t e, among)
      (edge step, lead_on d l seen (type_name t) (type_name u) step lead) (omega arith))
