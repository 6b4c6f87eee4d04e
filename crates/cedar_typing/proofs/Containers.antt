-- Sets, records and calls.
use Rattle.std.proofs.Common.{◌≡◌, Bool, true, false, ◌||◌, cond, List, [], ◌∷◌, Option, Some, None, refl, sym, ap, ◌∙◌, subst, inl, inr}
use Rattle.cedar_language.proofs.Booleans.{or_cases, and_left, and_right}
use Rattle.cedar_language.specs.Uid.{Text, Name}
use Rattle.cedar_language.specs.Tree.{String, ValueType, BooleanType, LongType, StringType, SetType, RecordType, EntityType, ExtensionType, Lit, Trees, no_trees, a_tree}
use Rattle.cedar_language.specs.Value.{Value, RecordOf, Values, no_values, a_value, FailedExtensionFunctionExecution, Outcome, Gives}
use Rattle.cedar_language.specs.Order.{same, same_text, rising, set_of}
use Rattle.cedar_language.specs.OrderLaws.{same_is}
use Rattle.cedar_language.specs.Sets.{SetsAreFinite}
use Rattle.cedar_language.specs.Facts.{Function, Facts}
use Rattle.cedar_language.specs.Meaning.{Request}
use Rattle.cedar_language.specs.Operators.{found, or_fails, has_member, called}
use Rattle.cedar_typing.specs.Types.{Presence, Required, CedarType, Booleans, Longs, Strings, Entities, Sets, Records, Extensions, Fields, no_fields, a_field, Field, field_at, and_field, lub, lub_more, lub_all}
use Rattle.cedar_typing.specs.Schema.{Signature, Environment}
use Rattle.cedar_typing.specs.Faults.{UnexpectedType, WrongNumberArguments, FunctionArgumentValidation}
use Rattle.cedar_typing.specs.Results.{Typing, Faulty, plainly}
use Rattle.cedar_typing.specs.Containers.{set_by, set_type, is_key, fields_of, record_by, passes, all_pass, same_length, constructs_of, where_literal, call_type}
use Rattle.cedar_typing.specs.Conforming.{FitsAt, IsClosed, IsOf, Fit, AreOf, IsTaken, AreTaken, HasSignature, Conforms}
use Rattle.cedar_typing.proofs.Sameness.{never, text_is, name_is, text_same}
use Rattle.cedar_typing.proofs.Sounding.{Sounds}
use Rattle.cedar_typing.proofs.Lub.{IsAbove, lub_above}

-- ---- the members of a set

MembersOf : Option CedarType → Values → Type 0
MembersOf (Some t) vs = (w : Value) → has_member vs w ≡ true → IsOf t w
MembersOf None vs = Unit {0}

member_cases : (t : CedarType) (v : Value) (vs : Values) → IsOf t v → ((w : Value) → has_member vs w ≡ true → IsOf t w) → (w : Value) →
    has_member (a_value v vs) w ≡ true → IsOf t w
member_cases t v vs h f w m = elim (or_cases (same v w) (has_member vs w) m) [
  | inl e ↦ subst (IsOf t) (same_is v w e) h
  | inr k ↦ f w k
]

members_above : (o : Option CedarType) (t c : CedarType) (v : Value) (vs : Values) → IsAbove o t c → IsOf t v →
    ((w : Value) → has_member vs w ≡ true → IsOf c w) → MembersOf o (a_value v vs)
unfolding MembersOf
members_above (Some d) t c v vs a h f = member_cases d v vs ((a v).0 h) (λ w m. (a w).1 (f w m))
members_above None t c v vs a h f = tt

more_members : (o : Option CedarType) (t : CedarType) (v : Value) (vs : Values) → IsOf t v → MembersOf o vs → MembersOf (lub_more t o) (a_value v vs)
unfolding MembersOf
more_members (Some c) t v vs h f = members_above (lub t c) t c v vs (lub_above t c) h f
more_members None t v vs h f = tt

all_members : (t : CedarType) (ts : List CedarType) (vs : Values) → AreOf (t ∷ ts) vs → MembersOf (lub_all t ts) vs
unfolding MembersOf
all_members t ts no_values h = absurd h
all_members t [] (a_value v no_values) h = member_cases t v no_values h.0 (λ w m. never m)
all_members t [] (a_value v (a_value w ws)) h = absurd h.1
all_members t (u ∷ us) (a_value v vs) h = more_members (lub_all u us) t v vs h.0 (all_members u us vs h.1)

-- ---- the fields of a record

FieldsFit : Option Fields → List Text → Values → Type 0
FieldsFit (Some fs) ks vs = Fit fs (found ks vs) × IsClosed fs (found ks vs)
FieldsFit None ks vs = Unit {0}

apart_if : (b : Bool) (l k : Text) → same_text k l ≡ b → same_text l k ≡ false → b ≡ false
apart_if false l k e h = refl
apart_if true l k e h = never (sym (sym (text_same l) ∙ ap (same_text l) (sym (text_is k l e)) ∙ h))

-- no text is apart in one order alone
pub apart : (l k : Text) → same_text l k ≡ false → same_text k l ≡ false
apart l k h = apart_if (same_text k l) l k refl h

-- ---- a look-up with one more name

with_name : Text → Value → (Text → Option Value) → Text → Option Value
with_name k v look a = cond (same_text k a) (Some v) (look a)

HasNoField : Option Fields → Text → Type 0
HasNoField (Some fs) k = field_at fs k ≡ None
HasNoField None k = Unit {0}

cond_none : {A : Type 0} (b : Bool) (x : A) (o : Option A) → cond b (Some x) o ≡ None → (b ≡ false) × (o ≡ None)
cond_none true x o e = cc
cond_none false x o e = (refl, e)

fits_beside : (b : Bool) (p : Presence) (t : CedarType) (v : Value) (o : Option Value) → b ≡ false → FitsAt p (IsOf t) o → FitsAt p (IsOf t) (cond b (Some v) o)
fits_beside b p t v o e h = rw e h

fit_beside : (fs : Fields) (k : Text) (v : Value) (look : Text → Option Value) → field_at fs k ≡ None → Fit fs look → Fit fs (with_name k v look)
unfolding with_name
fit_beside no_fields k v look n h = tt
fit_beside (a_field l p t fs) k v look n h =
    let two = cond_none (same_text l k) (record { presence = p; type = t }) (field_at fs k) n in
    (fits_beside (same_text k l) p t v (look l) (apart l k two.0) h.0, fit_beside fs k v look two.1 h.1)

closed_beside : (b : Bool) (f : Field) (v : Value) (o : Option Field) (r : Option Value) → (o ≡ None → r ≡ None) → cond b (Some f) o ≡ None →
    cond b (Some v) r ≡ None
closed_beside true f v o r h e = cc
closed_beside false f v o r h e = h e

or_false_parts : (a b : Bool) → (a || b) ≡ false → (a ≡ false) × (b ≡ false)
or_false_parts true b h = never (sym h)
or_false_parts false b h = (refl, h)

no_field_more : (b : Bool) (l k : Text) (t : CedarType) (o : Option Fields) → same_text l k ≡ false → HasNoField o k →
    HasNoField (cond b None (and_field l Required (Some t) o)) k
unfolding HasNoField
no_field_more true l k t o e h = tt
no_field_more false l k t (Some fs) e h = rw e h
no_field_more false l k t None e h = tt

no_field : (ks : List Text) (ts : List CedarType) (k : Text) → is_key k ks ≡ false → HasNoField (fields_of ks ts) k
unfolding HasNoField
no_field [] [] k e = refl
no_field [] (t ∷ ts) k e = tt
no_field (l ∷ ls) [] k e = tt
no_field (l ∷ ls) (t ∷ ts) k e =
    let two = or_false_parts (same_text k l) (is_key k ls) e in
    no_field_more (is_key l ls) l k t (fields_of ls ts) (apart k l two.0) (no_field ls ts k two.1)

fields_more : (b : Bool) (k : Text) (ks : List Text) (t : CedarType) (v : Value) (vs : Values) (o : Option Fields) → (b ≡ false → HasNoField o k) → IsOf t v →
    FieldsFit o ks vs →
    FieldsFit (cond b None (and_field k Required (Some t) o)) (k ∷ ks) (a_value v vs)
unfolding HasNoField FieldsFit with_name
fields_more true k ks t v vs o n h f = tt
fields_more false k ks t v vs None n h f = tt
fields_more false k ks t v vs (Some fs) n h f = (
  (fits_first (same_text k k) (text_same k), fit_beside fs k v (found ks vs) (n refl) f.0),
  λ a e. closed_beside (same_text k a) (record { presence = Required; type = t }) v (field_at fs a) (found ks vs a) (f.1 a) e,
)
  where
    fits_first : (b : Bool) → b ≡ true → FitsAt Required (IsOf t) (cond b (Some v) (found ks vs k))
    fits_first b e = rw e h

record_fits : (ks : List Text) (ts : List CedarType) (vs : Values) → AreOf ts vs → FieldsFit (fields_of ks ts) ks vs
unfolding FieldsFit
record_fits [] [] vs h = (tt, λ a _. refl)
record_fits [] (t ∷ ts) vs h = tt
record_fits (k ∷ ks) [] vs h = tt
record_fits (k ∷ ks) (t ∷ ts) no_values h = absurd h
record_fits (k ∷ ks) (t ∷ ts) (a_value v vs) h =
    fields_more (is_key k ks) k ks t v vs (fields_of ks ts) (λ e. no_field ks ts k e) h.0 (record_fits ks ts vs h.1)

-- ---- arguments

taken : (p : ValueType) (t : CedarType) (v : Value) → passes p t ≡ true → IsOf t v → IsTaken p v
taken BooleanType (Booleans t) v e h = (h.0, h.1)
taken LongType Longs v e h = h
taken StringType Strings v e h = h
taken SetType (Sets t) v e h = (h.0, h.1)
taken RecordType (Records fs) v e h = (h.0, h.1, h.2)
taken (EntityType n) (Entities m) v e h = (h.0, h.1, h.2 ∙ sym (name_is n m e))
taken (ExtensionType n) (Extensions m o) v e h = (h.0, h.1, h.2 ∙ sym (name_is n m e))
taken p t v e h = never e

all_taken : (ps : List ValueType) (ts : List CedarType) (vs : Values) → all_pass ps ts ≡ true → AreOf ts vs → AreTaken ps vs
all_taken [] [] no_values e h = tt
all_taken [] [] (a_value v vs) e h = absurd h
all_taken [] (t ∷ ts) vs e h = never e
all_taken (p ∷ ps) [] vs e h = never e
all_taken (p ∷ ps) (t ∷ ts) no_values e h = absurd h
all_taken (p ∷ ps) (t ∷ ts) (a_value v vs) e h =
    (taken p t v (and_left (passes p t) (all_pass ps ts) e) h.0, all_taken ps ts vs (and_right (passes p t) (all_pass ps ts) e) h.1)

module _ (e : Environment) (facts : Facts) (request : Request) (conforms : Conforms e.schema facts) where
  abbrev S : Typing → Outcome → Type 0
  S x o = Sounds facts request x o

  set_of_members : (finite : SetsAreFinite) (o : Option CedarType) (vs : Values) → MembersOf o vs → S (set_by o) (Gives (set_of vs))
  unfolding MembersOf
  set_of_members finite (Some t) vs h = ((rising vs, refl, λ w m. h w (sym (finite.members vs w) ∙ m)), λ _. tt)
  set_of_members finite None vs h = tt

  pub set_sound : (finite : SetsAreFinite) (ts : List CedarType) (vs : Values) → AreOf ts vs → S (set_type ts) (Gives (set_of vs))
  set_sound finite [] vs h = tt
  set_sound finite (t ∷ ts) vs h = set_of_members finite (lub_all t ts) vs (all_members t ts vs h)

  record_of_fields : (o : Option Fields) (ks : List Text) (vs : Values) → FieldsFit o ks vs → S (record_by o) (Gives (RecordOf ks vs))
  unfolding FieldsFit
  record_of_fields (Some fs) ks vs h = ((ks, vs, refl, h.0, h.1), λ _. tt)
  record_of_fields None ks vs h = tt

  pub record_sound : (ks : List Text) (ts : List CedarType) (vs : Values) → AreOf ts vs → S (record_by (fields_of ks ts)) (Gives (RecordOf ks vs))
  record_sound ks ts vs h = record_of_fields (fields_of ks ts) ks vs (record_fits ks ts vs h)

  -- ---- calls

  accepted_sound : (b : Bool) (t : CedarType) (o : Outcome) → S (plainly t) o → S (cond b (plainly t) (Faulty FunctionArgumentValidation)) o
  accepted_sound true t o h = h
  accepted_sound false t o h = tt

  constructs_sound : (accepts : Text → Bool) (xs : Trees) (t : CedarType) (o : Outcome) → S (plainly t) o → S (constructs_of accepts xs t) o
  constructs_sound accepts (a_tree (Lit (String s)) no_trees) t o h = accepted_sound (accepts s) t o h
  constructs_sound accepts xs t o h = tt

  literal_sound : (c : Option (Text → Bool)) (xs : Trees) (t : CedarType) (o : Outcome) → S (plainly t) o → S (where_literal c xs t) o
  literal_sound None xs t o h = h
  literal_sound (Some accepts) xs t o h = constructs_sound accepts xs t o h

  answer_sound : (g : Signature) (f : Function) (vs : Values) → HasSignature g f → AreTaken g.arguments vs → (r : Option Value) → f.answer vs ≡ r →
      S (plainly g.result) (or_fails FailedExtensionFunctionExecution r)
  answer_sound g f vs s h (Some v) i = (s.answers vs v h i, λ _. tt)
  answer_sound g f vs s h None i = tt

  counted_sound : (g : Signature) (f : Function) (vs : Values) → HasSignature g f → AreTaken g.arguments vs → S (plainly g.result) (called (Some f) vs)
  counted_sound g f vs s h = rw (s.arity vs h) (answer_sound g f vs s h (f.answer vs) refl)

  called_sound : (name : Name) (g : Signature) (vs : Values) → e.schema.signature name ≡ Some g → AreTaken g.arguments vs →
      S (plainly g.result) (called (facts.function name) vs)
  called_sound name g vs i h = let f = conforms.functions name g i in rw f.1 (counted_sound g f.0 vs f.2 h)

  faulty_sound : (b : Bool) (o : Outcome) → S (cond b (Faulty UnexpectedType) (Faulty WrongNumberArguments)) o
  faulty_sound true o = tt
  faulty_sound false o = tt

  call_if : (b : Bool) (name : Name) (g : Signature) → e.schema.signature name ≡ Some g → (xs : Trees) (ts : List CedarType) (vs : Values) →
      all_pass g.arguments ts ≡ b → AreOf ts vs →
      S (cond b (where_literal g.constructs xs g.result) (cond (same_length g.arguments ts) (Faulty UnexpectedType) (Faulty WrongNumberArguments)))
      (called (facts.function name) vs)
  call_if true name g i xs ts vs b h =
      literal_sound g.constructs xs g.result (called (facts.function name) vs) (called_sound name g vs i (all_taken g.arguments ts vs b h))
  call_if false name g i xs ts vs b h = faulty_sound (same_length g.arguments ts) (called (facts.function name) vs)

  call_where : (name : Name) (o : Option Signature) → e.schema.signature name ≡ o → (xs : Trees) (ts : List CedarType) (vs : Values) → AreOf ts vs →
      S (call_type o xs ts) (called (facts.function name) vs)
  call_where name None i xs ts vs h = tt
  call_where name (Some g) i xs ts vs h = call_if (all_pass g.arguments ts) name g i xs ts vs refl h

  pub call_sound : (name : Name) (xs : Trees) (ts : List CedarType) (vs : Values) → AreOf ts vs →
      S (call_type (e.schema.signature name) xs ts) (called (facts.function name) vs)
  call_sound name xs ts vs h = call_where name (e.schema.signature name) refl xs ts vs h
