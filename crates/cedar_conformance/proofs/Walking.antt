-- A record's fields beside the attributes that are declared, both in rising order: one walk along both tells whether they agree.
use Rattle.std.proofs.Common.{◌≡◌, ◌+◌, ◌≤◌, arith, Bool, true, false, ◌&&◌, List, [], ◌∷◌, Option, Some, None, Global, cond, refl, sym, ap, ◌∙◌, subst}
use Rattle.std.specs.Prelude.{is_some, not, map, ◌||◌}
use Rattle.std.specs.List.{AllByRecursion}
use Rattle.std.specs.List.Sorted.{IsStrictlySortedBy}
use Rattle.std.specs.Ordering.{is_eq, ordering_reverse}
use Rattle.std.specs.Cmp.Lexicographic.{texts_ties, nat_list_cmp_total}
use Rattle.std.specs.Rc.{rc_str_bytes}
use Rattle.std.specs.declared.cmp.Ordering.{Ordering}
use Rattle.std.specs.declared.cmp.Ordering.TheVariants as order
use Rattle.std.specs.BTreeMap.{BTreeMap}
use Rattle.std.specs.declared.rc.Rc.{Rc}
use Rattle.std.specs.declared.rc.RcStr.{RcStr}
use Rattle.std.proofs.lemmas.Map.Keys.{sorted_head, sorted_tail}
use Rattle.cedar_lemmas.proofs.Booleans.{and_nothing}
use Rattle.cedar_language.specs.Uid.{Text}
use Rattle.cedar_language.specs.Value.{Value, RecordOf}
use Rattle.cedar_language.specs.Order.{text_cmp, same_text}
use Rattle.cedar_language.specs.Operators.{found}
use Rattle.cedar_typing.specs.Containers.{is_key}
use Rattle.cedar_typing.specs.Deciding.{is_value_of, fits_at, are_declared, fits}
use Rattle.cedar_typing.specs.Types.{Presence, Required, Optional, Records, Field, field_at}
use Rattle.cedar_typing.proofs.Sameness.{text_is, text_same}
use Rattle.cedar_schema.specs.Types.{listed, type_view, fields_of, named_views}
use Rattle.cedar_schema.proofs.TypeViews.{record_view}
use Rattle.cedar_schema.specs.declared.types.SchemaType.{SchemaType}
use Rattle.cedar_schema.specs.declared.types.SchemaType.TheVariants as types
use Rattle.cedar_schema.specs.declared.types.AttributeType.{AttributeType}
use Rattle.cedar_values.specs.Kinds.{keys_of, values_of, value_of}
use Rattle.cedar_values.specs.declared.values.ValueKind.{ValueKind}
use Rattle.cedar_values.specs.declared.values.ValueKind.TheVariants as kind
use Rattle.cedar_values.specs.Sizes.{weigh, weigh_all}
use Rattle.cedar_conformance.specs.Walks.{Entry, value_there, left_of}

abbrev pub Entries : Type 0
Entries = List Entry

abbrev pub Attributes : Type 0
Attributes = List (Text × AttributeType)

abbrev pub Declared : Type 0
Declared = List (Text × Field)

abbrev pub names_in : Declared → List Text
names_in as_ = map (λ d. d.0) as_

-- whether a record's fields are as its attributes are declared
abbrev pub agree : Declared → Entries → Bool
agree as_ es = are_declared (listed as_) (keys_of es) && fits (listed as_) (found (keys_of es) (values_of es))

-- ---- keys apart

apart_if : (b : Bool) (l k : Text) → same_text k l ≡ b → same_text l k ≡ false → b ≡ false
apart_if false l k e h = refl
apart_if true l k e h =
    let is : same_text l k ≡ true = subst (λ x. same_text l x ≡ true) (sym (text_is k l e)) (text_same l) in
    absurd (cc)

apart : (l k : Text) → same_text l k ≡ false → same_text k l ≡ false
apart l k h = apart_if (same_text k l) l k refl h

below_apart : (n k : Text) → text_cmp n k ≡ order.Less → same_text n k ≡ false
below_apart n k h = texts_ties n k ∙ ap is_eq h

keys_apart : (n : Text) (ks : List Text) → AllByRecursion (λ k. text_cmp n k ≡ order.Less) ks → is_key n ks ≡ false
keys_apart n [] h = refl
keys_apart n (k ∷ ks) h = rw (below_apart n k h.0) (keys_apart n ks h.1)

below_all : (n k : Text) (ks : List Text) → text_cmp n k ≡ order.Less → AllByRecursion (λ l. text_cmp k l ≡ order.Less) ks → AllByRecursion (λ l. text_cmp n l ≡ order.Less) ks
below_all n k [] h all = tt
below_all n k (l ∷ ls) h all = (nat_list_cmp_total.trans n k l h all.0, below_all n k ls h all.1)

or_parts : (a b : Bool) → (a || b) ≡ false → (a ≡ false) × (b ≡ false)
or_parts true b h = cc
or_parts false b h = (refl, h)

-- ---- what is declared, and what is found, beside a name that isn't there

declared_past : (n : Text) (f : Field) (as_ : Declared) (ks : List Text) → is_key n ks ≡ false →
    are_declared (listed ((n, f) ∷ as_)) ks ≡ are_declared (listed as_) ks
declared_past n f as_ [] h = refl
declared_past n f as_ (k ∷ ks) h =
    let two = or_parts (same_text n k) (is_key n ks) h in
    rw (two.0, declared_past n f as_ ks two.1) refl

not_found : (n : Text) (es : Entries) → is_key n (keys_of es) ≡ false → found (keys_of es) (values_of es) n ≡ None
not_found n [] h = refl
not_found n (e ∷ es) h =
    let two = or_parts (same_text n (rc_str_bytes e.0)) (is_key n (keys_of es)) h in
    rw (apart n (rc_str_bytes e.0) two.0) (not_found n es two.1)

not_declared : (k : Text) (as_ : Declared) → is_key k (names_in as_) ≡ false → field_at (listed as_) k ≡ None
not_declared k [] h = refl
not_declared k (d ∷ as_) h =
    let two = or_parts (same_text k d.0) (is_key k (names_in as_)) h in
    rw (apart k d.0 two.0) (not_declared k as_ two.1)

fits_past : (k : Text) (v : Value) (look : Text → Option Value) (as_ : Declared) → is_key k (names_in as_) ≡ false →
    fits (listed as_) (λ a. cond (same_text k a) (Some v) (look a)) ≡ fits (listed as_) look
fits_past k v look [] h = refl
fits_past k v look (d ∷ as_) h =
    let two = or_parts (same_text k d.0) (is_key k (names_in as_)) h in
    rw (two.0, fits_past k v look as_ two.1) refl

turned : (d f r : Bool) → (d && (f && r)) ≡ (f && (d && r))
turned true true r = refl
turned true false r = refl
turned false true r = refl
turned false false r = refl

skipped : (n : Text) (f : Field) (as_ : Declared) (es : Entries) → is_key n (keys_of es) ≡ false →
    agree ((n, f) ∷ as_) es ≡ (fits_at f.presence (is_value_of f.type) None && agree as_ es)
skipped n f as_ es h =
    ap (λ d. d && fits (listed ((n, f) ∷ as_)) (found (keys_of es) (values_of es))) (declared_past n f as_ (keys_of es) h)
    ∙ ap (λ o. are_declared (listed as_) (keys_of es) && (fits_at f.presence (is_value_of f.type) o && fits (listed as_) (found (keys_of es) (values_of es)))) (not_found n es h)
    ∙ turned (are_declared (listed as_) (keys_of es)) (fits_at f.presence (is_value_of f.type) None) (fits (listed as_) (found (keys_of es) (values_of es)))

stuck : (as_ : Declared) (e : Entry) (es : Entries) → is_key (rc_str_bytes e.0) (names_in as_) ≡ false → agree as_ (e ∷ es) ≡ false
stuck as_ e es h = rw (not_declared (rc_str_bytes e.0) as_ h) refl

taken : (n : Text) (f : Field) (as_ : Declared) (e : Entry) (es : Entries) → same_text (rc_str_bytes e.0) n ≡ true →
    is_key n (keys_of es) ≡ false → is_key (rc_str_bytes e.0) (names_in as_) ≡ false →
    agree ((n, f) ∷ as_) (e ∷ es) ≡ (fits_at f.presence (is_value_of f.type) (Some e.1) && agree as_ es)
taken n f as_ e es h no_more no_name =
    let k = rc_str_bytes e.0 in
    let turn : same_text n k ≡ true = subst (λ x. same_text n x ≡ true) (sym (text_is k n h)) (text_same n) in
    let look = found (keys_of es) (values_of es) in
    ap (λ b. (is_some (cond b (Some f) (field_at (listed as_) k)) && are_declared (listed ((n, f) ∷ as_)) (keys_of es)) && fits (listed ((n, f) ∷ as_)) (found (keys_of (e ∷ es)) (values_of (e ∷ es)))) turn
    ∙ ap (λ d. d && fits (listed ((n, f) ∷ as_)) (found (keys_of (e ∷ es)) (values_of (e ∷ es)))) (declared_past n f as_ (keys_of es) no_more)
    ∙ ap (λ b. are_declared (listed as_) (keys_of es) && (fits_at f.presence (is_value_of f.type) (cond b (Some e.1) (look n)) && fits (listed as_) (found (keys_of (e ∷ es)) (values_of (e ∷ es))))) h
    ∙ ap (λ r. are_declared (listed as_) (keys_of es) && (fits_at f.presence (is_value_of f.type) (Some e.1) && r)) (fits_past k e.1 look as_ no_name)
    ∙ turned (are_declared (listed as_) (keys_of es)) (fits_at f.presence (is_value_of f.type) (Some e.1)) (fits (listed as_) look)

-- ---- one step of the walk

-- a walk along declared attributes and fields, of which these are left
pub record Walks (as_ : Declared) (es : Entries) (rest : Declared) (left : Entries) : Type 0 where
  pub decides : agree rest left ≡ agree as_ es
  pub names : IsStrictlySortedBy text_cmp (names_in rest)
  pub keys : IsStrictlySortedBy text_cmp (keys_of left)
  pub weight : weigh_all (values_of left) ≤ weigh_all (values_of es)

-- names rise as the keys of the map do
pub names_rise : (as_ : Attributes) → IsStrictlySortedBy text_cmp (map (λ e. e.0) as_) → IsStrictlySortedBy text_cmp (names_in (named_views as_))
names_rise as_ h = subst (IsStrictlySortedBy text_cmp) (sym (same_names as_)) h
  where
    same_names : (as_ : Attributes) → names_in (named_views as_) ≡ map (λ e. e.0) as_
    same_names [] = refl
    same_names (e ∷ es) = ap (λ ns. e.0 ∷ ns) (same_names es)

pub begins : (as_ : Declared) (es left : Entries) → es ≡ left → IsStrictlySortedBy text_cmp (names_in as_) → IsStrictlySortedBy text_cmp (keys_of es) →
    Walks as_ es as_ left
begins as_ es left is names keys = record {
  decides = ap (agree as_) (sym is);
  names = names;
  keys = subst (λ x. IsStrictlySortedBy text_cmp (keys_of x)) is keys;
  weight = let e = ap (λ x. weigh_all (values_of x)) is in omega (arith, e);
}

taken_here : (n : Text) (f : Field) (as_ : Declared) (e : Entry) (es : Entries) → IsStrictlySortedBy text_cmp (n ∷ names_in as_) →
    IsStrictlySortedBy text_cmp (keys_of (e ∷ es)) → same_text (rc_str_bytes e.0) n ≡ true →
    agree ((n, f) ∷ as_) (e ∷ es) ≡ (fits_at f.presence (is_value_of f.type) (Some e.1) && agree as_ es)
taken_here n f as_ e es names keys h =
    let k = rc_str_bytes e.0 in
    let is : k ≡ n = text_is k n h in
    taken n f as_ e es h
    (subst (λ x. is_key x (keys_of es) ≡ false) is (keys_apart k (keys_of es) (sorted_head text_cmp k (keys_of es) keys)))
    (subst (λ x. is_key x (names_in as_) ≡ false) (sym is) (keys_apart n (names_in as_) (sorted_head text_cmp n (names_in as_) names)))

passed_by : (o : Ordering) (n : Text) (f : Field) (as_ : Declared) (e : Entry) (es : Entries) → text_cmp n (rc_str_bytes e.0) ≡ o →
    IsStrictlySortedBy text_cmp (n ∷ names_in as_) → IsStrictlySortedBy text_cmp (keys_of (e ∷ es)) → same_text (rc_str_bytes e.0) n ≡ false →
    agree ((n, f) ∷ as_) (e ∷ es) ≡ (fits_at f.presence (is_value_of f.type) None && agree as_ (e ∷ es))
passed_by order.Less n f as_ e es o names keys h =
    let k = rc_str_bytes e.0 in
    skipped n f as_ (e ∷ es) (keys_apart n (keys_of (e ∷ es)) (o, below_all n k (keys_of es) o (sorted_head text_cmp k (keys_of es) keys)))
passed_by order.Equal n f as_ e es o names keys h =
    let k = rc_str_bytes e.0 in
    let same : same_text n k ≡ true = texts_ties n k ∙ ap is_eq o in
    let other : same_text n k ≡ false = apart k n h in
    absurd (cc)
passed_by order.Greater n f as_ e es o names keys h =
    let k = rc_str_bytes e.0 in
    let below : text_cmp k n ≡ order.Less = nat_list_cmp_total.antisymm k n ∙ ap ordering_reverse o in
    let all = below_all k n (names_in as_) below (sorted_head text_cmp n (names_in as_) names) in
    stuck ((n, f) ∷ as_) e es (keys_apart k (n ∷ names_in as_) (below, all))
    ∙ sym (ap (λ b. fits_at f.presence (is_value_of f.type) None && b) (stuck as_ e es (keys_apart k (names_in as_) all))
    ∙ and_nothing (fits_at f.presence (is_value_of f.type) None))

some_where : (b : Bool) (v w : Value) → Some w ≡ cond b (Some v) None → (b ≡ true) × (v ≡ w)
some_where true v w h = (refl, cc)
some_where false v w h = cc

none_where : (b : Bool) (v : Value) → None ≡ cond b (Some v) None → b ≡ false
none_where true v h = cc
none_where false v h = refl

taken_value : (p : Presence) (f : Value → Bool) (v : Value) → fits_at p f (Some v) ≡ f v
taken_value Required f v = refl
taken_value Optional f v = refl

-- the next field is of the next name
pub at_name : (n : Text) (f : Field) (as_ : Declared) (o : Option Entry) (es : Entries) (v : Value) → IsStrictlySortedBy text_cmp (n ∷ names_in as_) →
    IsStrictlySortedBy text_cmp (keys_of (left_of o es)) → Some v ≡ value_there n o → agree ((n, f) ∷ as_) (left_of o es) ≡ (is_value_of f.type v && agree as_ es)
at_name n f as_ None es v names keys h = cc
at_name n f as_ (Some e) es v names keys h =
    let there = some_where (same_text (rc_str_bytes e.0) n) e.1 v h in
    taken_here n f as_ e es names keys there.0 ∙ ap (λ b. b && agree as_ es) (taken_value f.presence (is_value_of f.type) e.1 ∙ ap (is_value_of f.type) there.1)

-- and it isn't
pub past_name : (n : Text) (f : Field) (as_ : Declared) (o : Option Entry) (es : Entries) → IsStrictlySortedBy text_cmp (n ∷ names_in as_) →
    IsStrictlySortedBy text_cmp (keys_of (left_of o es)) → None ≡ value_there n o →
    agree ((n, f) ∷ as_) (left_of o es) ≡ (fits_at f.presence (is_value_of f.type) None && agree as_ (left_of o es))
past_name n f as_ None es names keys h = skipped n f as_ [] refl
past_name n f as_ (Some e) es names keys h = passed_by (text_cmp n (rc_str_bytes e.0)) n f as_ e es refl names keys (none_where (same_text (rc_str_bytes e.0) n) e.1 h)

-- ---- the walk

module _ (as_ : Declared) (es : Entries) (n : Text) (f : Field) (rest : Declared) (o : Option Entry) (behind : Entries) where
  pub takes : (v : Value) (left : Entries) → Walks as_ es ((n, f) ∷ rest) (left_of o behind) → Some v ≡ value_there n o → is_value_of f.type v ≡ true → behind ≡ left →
      Walks as_ es rest left
  takes v left w there is on = record {
    decides = ap (agree rest) (sym on) ∙ sym (ap (λ b. b && agree rest behind) is) ∙ sym (at_name n f rest o behind v w.names w.keys there) ∙ w.decides;
    names = sorted_tail text_cmp n (names_in rest) w.names;
    keys = subst (λ x. IsStrictlySortedBy text_cmp (keys_of x)) on (tail_rises o there w.keys);
    weight = let e = ap (λ x. weigh_all (values_of x)) on in let l = tail_lighter o there in omega (arith, e, l, w.weight);
  }
    where
      tail_rises : (o : Option Entry) → Some v ≡ value_there n o → IsStrictlySortedBy text_cmp (keys_of (left_of o behind)) → IsStrictlySortedBy text_cmp (keys_of behind)
      tail_rises None h s = cc
      tail_rises (Some e) h s = sorted_tail text_cmp (rc_str_bytes e.0) (keys_of behind) s

      tail_lighter : (o : Option Entry) → Some v ≡ value_there n o → weigh_all (values_of behind) ≤ weigh_all (values_of (left_of o behind))
      tail_lighter None h = cc
      tail_lighter (Some e) h = omega arith

  pub refuses : (v : Value) → Walks as_ es ((n, f) ∷ rest) (left_of o behind) → Some v ≡ value_there n o → is_value_of f.type v ≡ false → false ≡ agree as_ es
  refuses v w there is = sym (ap (λ b. b && agree rest behind) is) ∙ sym (at_name n f rest o behind v w.names w.keys there) ∙ w.decides

  pub passes : Walks as_ es ((n, f) ∷ rest) (left_of o behind) → None ≡ value_there n o → fits_at f.presence (is_value_of f.type) None ≡ true →
      Walks as_ es rest (left_of o behind)
  passes w there may = record {
    decides = sym (ap (λ b. b && agree rest (left_of o behind)) may) ∙ sym (past_name n f rest o behind w.names w.keys there) ∙ w.decides;
    names = sorted_tail text_cmp n (names_in rest) w.names;
    keys = w.keys;
    weight = w.weight;
  }

  pub misses : Walks as_ es ((n, f) ∷ rest) (left_of o behind) → None ≡ value_there n o → fits_at f.presence (is_value_of f.type) None ≡ false → false ≡ agree as_ es
  misses w there may = sym (ap (λ b. b && agree rest (left_of o behind)) may) ∙ sym (past_name n f rest o behind w.names w.keys there) ∙ w.decides

  pub lighter : (v : Value) → Walks as_ es ((n, f) ∷ rest) (left_of o behind) → Some v ≡ value_there n o → weigh v + 1 ≤ weigh_all (values_of es)
  lighter v w there = by o there w.weight
    where
      by : (o : Option Entry) → Some v ≡ value_there n o → weigh_all (values_of (left_of o behind)) ≤ weigh_all (values_of es) → weigh v + 1 ≤ weigh_all (values_of es)
      by None h k = cc
      by (Some e) h k =
          let same = ap weigh (some_where (same_text (rc_str_bytes e.0) n) e.1 v h).1 in
          omega (arith, same, k)

pub ends : (as_ : Declared) (es : Entries) (o : Option Entry) (behind : Entries) → Walks as_ es [] (left_of o behind) → agree as_ es ≡ not (is_some o)
ends as_ es None behind w = sym w.decides
ends as_ es (Some e) behind w = sym w.decides

-- ---- a record and the type of records

pub of_record : (t : SchemaType) (v : Value) (m : Rc (BTreeMap Text AttributeType) Global) (k : ValueKind) (f : Rc (BTreeMap (RcStr Global) Value) Global)
    (a : BTreeMap Text AttributeType) (e : BTreeMap (RcStr Global) Value) → t ≡ types.Record m → k ≡ kind.Record f → value_of k ≡ v → a ≡ m.value → e ≡ f.value →
    is_value_of (Records (fields_of a)) (RecordOf (keys_of e.entries) (values_of e.entries)) ≡ is_value_of (type_view t) v
of_record t v m k f a e it ik iv ia ie =
    ap (λ (x : BTreeMap Text AttributeType). is_value_of (Records (fields_of x)) (RecordOf (keys_of e.entries) (values_of e.entries))) ia
    ∙ ap (λ (x : BTreeMap (RcStr Global) Value). is_value_of (Records (fields_of m.value)) (RecordOf (keys_of x.entries) (values_of x.entries))) ie
    ∙ ap (λ x. is_value_of x (RecordOf (keys_of f.value.entries) (values_of f.value.entries))) (sym (record_view m))
    ∙ ap (λ x. is_value_of (type_view x) (value_of (kind.Record f))) (sym it)
    ∙ ap (λ x. is_value_of (type_view t) (value_of x)) (sym ik)
    ∙ ap (is_value_of (type_view t)) iv
