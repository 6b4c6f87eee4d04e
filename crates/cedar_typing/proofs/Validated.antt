-- What has a type means a value of it, or errs by a kind that no types rule out.
use Rattle.std.proofs.Common.{◌≡◌, Bool, true, false, List, [], ◌++◌, Option, Some, None, refl, sym, ap, ◌∙◌, subst}
use Rattle.std.specs.Prelude.{◌+ℤ◌, ◌-ℤ◌, ◌*ℤ◌}
use Rattle.cedar_language.specs.Uid.{Name, Uid}
use Rattle.cedar_language.specs.Tree.{Literal, Boolean, Long, String, Entity, SlotId, Operator, Not, Neg, IsEmpty, Equal, Less, LessEq, Add, Sub, Mul, In, Contains, ContainsAll, ContainsAny, GetTag, HasTag, GetAttr, HasAttr, HasPath, Like, Is, MakeSet, MakeRecord, Call, Tree, Lit, Var, Slot, Unknown, If, And, Or, Apply, Trees, no_trees, a_tree}
use Rattle.cedar_language.specs.Value.{Plain, Values, Kind, Outcome, Gives, Fails}
use Rattle.cedar_language.specs.Sets.{SetsAreFinite}
use Rattle.cedar_language.specs.Answering.{Standing, Satisfied, Erring}
use Rattle.cedar_language.specs.Authorization.{request_at, standing_of}
use Rattle.cedar_language.specs.Facts.{Facts}
use Rattle.cedar_language.specs.Meaning.{Request, Outcomes, GivesAll, OneFails, slot_outcome, more_of, apply_of, meaning, meanings}
use Rattle.cedar_language.specs.Operators.{has_all, has_some, applied}
use Rattle.cedar_typing.specs.Types.{BoolType, AlwaysFalse, CedarType, Booleans}
use Rattle.cedar_typing.specs.Capabilities.{Capabilities, AllHold}
use Rattle.cedar_typing.specs.Schema.{EntityShape, Schema, Environment, SlotTypes, IsEnvironment}
use Rattle.cedar_typing.specs.Results.{Typing, HasType, Faulty, Typings, HaveTypes, OneFaulty}
use Rattle.cedar_typing.specs.Leaves.{where_named, uid_type, literal_type, slot_type}
use Rattle.cedar_typing.specs.Typing.{operator_type, more_types, apply_typing, type_of, types_of}
use Rattle.cedar_typing.specs.Conforming.{AreOf, Conforms, IsRequestOf}
use Rattle.cedar_typing.specs.Validated.{TypesAllow, IsSound, TypesAreSound, IsValid, IsBooleanOrAllowed, ValidatedPoliciesErrOnlyBy, ValidPoliciesStand, NeverErrsBy, ImpossiblePoliciesAreNeverSatisfied}
use Rattle.cedar_typing.proofs.Sameness.{never}
use Rattle.cedar_typing.proofs.Sounding.{Sounds, fails_soundly, known_sound, hold_all}
use Rattle.cedar_typing.proofs.Lazies.{and_sound, or_sound, if_sound}
use Rattle.cedar_typing.proofs.Plain.{not_sound, neg_sound, is_empty_sound, less_sound, less_eq_sound, arithmetic_sound, contains_sound, two_sets_sound, like_sound, is_sound}
use Rattle.cedar_typing.proofs.Attributes.{attribute_sound, has_attribute_sound, has_path_sound, get_tag_sound, has_tag_sound}
use Rattle.cedar_typing.proofs.Containers.{set_sound, record_sound, call_sound}
use Rattle.cedar_typing.proofs.Relations.{equal_sound, in_sound}

abbrev SoundAll : Typings → Outcomes → Type 0
SoundAll (HaveTypes ts) (GivesAll vs) = AreOf ts vs
SoundAll (HaveTypes ts) (OneFails k) = TypesAllow k
SoundAll (OneFaulty k) os = Unit {0}

module _ (finite : SetsAreFinite) (e : Environment) (facts : Facts) (request : Request) (conforms : Conforms e.schema facts)
    (asked : IsRequestOf e request) where
  abbrev S : Typing → Outcome → Type 0
  S x o = Sounds facts request x o

  -- ---- leaves

  named_sound : (b : Bool) (u : Uid) → S (where_named b u.type_name) (Gives (Plain (Entity u)))
  named_sound true u = ((u, refl, refl), λ _. tt)
  named_sound false u = tt

  uid_sound : (o : Option EntityShape) (u : Uid) → S (uid_type e.schema o u) (Gives (Plain (Entity u)))
  uid_sound (Some s) u = named_sound (e.schema.may_name u) u
  uid_sound None u = tt

  literal_sound : (l : Literal) → S (literal_type e.schema l) (Gives (Plain l))
  literal_sound (Boolean b) = known_sound facts request b b refl
  literal_sound (Long n) = ((n, refl), λ _. tt)
  literal_sound (String s) = ((s, refl), λ _. tt)
  literal_sound (Entity u) = uid_sound (e.schema.entity u.type_name) u

  slot_if : (s : SlotId) (o : Option Name) → e.slot s ≡ o → S (slot_type o) (slot_outcome (request.slots s))
  slot_if s (Some n) i = let u = asked.slots s n i in rw u.1 ((u.0, refl, u.2), λ _. tt)
  slot_if s None i = tt

  -- ---- operators

  operator_sound : (op : Operator) (xs : Trees) (ts : List CedarType) (vs : Values) (c : Capabilities) → AreOf ts vs →
      meanings facts request xs ≡ GivesAll vs → AllHold facts request c →
      S (operator_type e op xs ts c) (applied facts op vs)
  operator_sound Not xs ts vs c h m k = not_sound facts request ts vs h
  operator_sound Neg xs ts vs c h m k = neg_sound facts request ts vs h
  operator_sound IsEmpty xs ts vs c h m k = is_empty_sound facts request ts vs h
  operator_sound Equal xs ts vs c h m k = equal_sound e facts request conforms asked xs ts vs h m
  operator_sound Less xs ts vs c h m k = less_sound facts request ts vs h
  operator_sound LessEq xs ts vs c h m k = less_eq_sound facts request ts vs h
  operator_sound Add xs ts vs c h m k = arithmetic_sound facts request (λ x y. x +ℤ y) ts vs h
  operator_sound Sub xs ts vs c h m k = arithmetic_sound facts request (λ x y. x -ℤ y) ts vs h
  operator_sound Mul xs ts vs c h m k = arithmetic_sound facts request (λ x y. x *ℤ y) ts vs h
  operator_sound In xs ts vs c h m k = in_sound e facts request conforms asked xs ts vs h m
  operator_sound Contains xs ts vs c h m k = contains_sound facts request ts vs h
  operator_sound ContainsAll xs ts vs c h m k = two_sets_sound facts request has_all ts vs h
  operator_sound ContainsAny xs ts vs c h m k = two_sets_sound facts request has_some ts vs h
  operator_sound GetTag xs ts vs c h m k = get_tag_sound e facts request conforms xs ts vs c h m k
  operator_sound HasTag xs ts vs c h m k = has_tag_sound e facts request conforms xs ts vs c h m k
  operator_sound (GetAttr a) xs ts vs c h m k = attribute_sound e facts request conforms a xs ts vs c h m k
  operator_sound (HasAttr a) xs ts vs c h m k = has_attribute_sound e facts request conforms a xs ts vs c h m k
  operator_sound (HasPath a as_) xs ts vs c h m k = has_path_sound e facts request conforms a as_ xs ts vs c h m k
  operator_sound (Like ps) xs ts vs c h m k = like_sound facts request ps ts vs h
  operator_sound (Is n) xs ts vs c h m k = is_sound facts request e.schema n ts vs h
  operator_sound MakeSet xs ts vs c h m k = set_sound e facts request conforms finite ts vs h
  operator_sound (MakeRecord ks) xs ts vs c h m k = record_sound e facts request conforms ks ts vs h
  operator_sound (Call f) xs ts vs c h m k = call_sound e facts request conforms f xs ts vs h

  apply_sound : (op : Operator) (xs : Trees) (c : Capabilities) (ts : Typings) (os : Outcomes) → meanings facts request xs ≡ os → AllHold facts request c →
      SoundAll ts os →
      S (apply_typing e op xs c ts) (apply_of facts op os)
  apply_sound op xs c (HaveTypes ts) (GivesAll vs) m k h = operator_sound op xs ts vs c h m k
  apply_sound op xs c (HaveTypes ts) (OneFails f) m k h = fails_soundly facts request (operator_type e op xs ts c) f h
  apply_sound op xs c (OneFaulty f) os m k h = tt

  more_sound : (x : Typing) (o : Outcome) (xs : Typings) (os : Outcomes) → S x o → SoundAll xs os → SoundAll (more_types x xs) (more_of o os)
  more_sound (HasType t c) (Gives v) (HaveTypes ts) (GivesAll vs) h k = (h.0, k)
  more_sound (HasType t c) (Gives v) (HaveTypes ts) (OneFails f) h k = k
  more_sound (HasType t c) (Fails f) (HaveTypes ts) os h k = h
  more_sound (HasType t c) o (OneFaulty f) os h k = tt
  more_sound (Faulty f) o xs os h k = tt

  -- ---- the whole

  mutual
    sound : (x : Tree) (c : Capabilities) → AllHold facts request c → S (type_of e x c) (meaning facts request x)
    sound (Lit l) c k = literal_sound l
    sound (Var v) c k = (asked.variables v, λ _. tt)
    sound (Slot s) c k = slot_if s (e.slot s) refl
    sound (Unknown n ty) c k = tt
    sound (If t y n) c k =
        if_sound facts request (type_of e t c) (meaning facts request t) (λ d. type_of e y (d ++ c)) (meaning facts request y) (type_of e n c)
        (meaning facts request n)
        (sound t c k) (λ d h. sound y (d ++ c) (hold_all facts request d c h k)) (sound n c k)
    sound (And l r) c k =
        and_sound facts request (type_of e l c) (meaning facts request l) (λ d. type_of e r (d ++ c)) (meaning facts request r)
        (sound l c k) (λ t d _ h _. sound r (d ++ c) (hold_all facts request d c h k))
    sound (Or l r) c k = or_sound facts request (type_of e l c) (meaning facts request l) (type_of e r c) (meaning facts request r) (sound l c k) (sound r c k)
    sound (Apply op ts) c k = apply_sound op ts c (types_of e ts c) (meanings facts request ts) refl k (sound_all ts c k)

    sound_all : (ts : Trees) (c : Capabilities) → AllHold facts request c → SoundAll (types_of e ts c) (meanings facts request ts)
    sound_all no_trees c k = tt
    sound_all (a_tree t ts) c k =
        more_sound (type_of e t c) (meaning facts request t) (types_of e ts c) (meanings facts request ts) (sound t c k) (sound_all ts c k)

pub types_are_sound : SetsAreFinite → TypesAreSound
types_are_sound finite e facts request conforms asked x c d t k h =
    subst (λ y. Sounds facts request y (meaning facts request x)) h (sound finite e facts request conforms asked x c k)

pub boolean_or : (facts : Facts) (request : Request) (t : BoolType) (d : Capabilities) (o : Outcome) → IsSound facts request (Booleans t) d o →
    IsBooleanOrAllowed o
boolean_or facts request t d (Gives v) h = (h.0.0, h.0.1)
boolean_or facts request t d (Fails k) h = h

schema_conforms : (s r : Schema) (facts : Facts) → s ≡ r → Conforms s facts → Conforms r facts
schema_conforms s r facts h k = subst (λ x. Conforms x facts) h k

module _ (finite : SetsAreFinite) (schema : Schema) (facts : Facts) (conforms : Conforms schema facts) (may : SlotTypes) where
  -- what has a type in an environment of the schema
  typed : (e : Environment) → IsEnvironment schema may e → (request : Request) → IsRequestOf e request → (x : Tree) (t : CedarType) (d : Capabilities) →
      type_of e x [] ≡ HasType t d →
      IsSound facts request t d (meaning facts request x)
  typed e is request asked x t d h = types_are_sound finite e facts request (schema_conforms schema e.schema facts (sym is.of) conforms) asked x [] d t tt h

  valid_is : (x : Tree) → IsValid schema may x → (e : Environment) → IsEnvironment schema may e → (request : Request) → IsRequestOf e request →
      IsBooleanOrAllowed (meaning facts request x)
  valid_is x valid e is request asked =
      let h = valid e is in
      boolean_or facts request h.0 h.1 (meaning facts request x) (typed e is request asked x (Booleans h.0) h.1 h.2)

pub validated_policies_err_only_by : SetsAreFinite → ValidatedPoliciesErrOnlyBy
validated_policies_err_only_by finite schema facts conforms may x valid e is request asked =
    valid_is finite schema facts conforms may x valid e is request asked

-- ---- how policies stand

kind_in : Standing → Kind → Kind
kind_in (Erring k) l = k
kind_in _ l = l

boolean_stands : (b : Bool) (k : Kind) → standing_of (Gives (Plain (Boolean b))) ≡ Erring k → TypesAllow k
boolean_stands true k h = cc
boolean_stands false k h = cc

stands_allowed : (o : Outcome) → IsBooleanOrAllowed o → (k : Kind) → standing_of o ≡ Erring k → TypesAllow k
unfolding kind_in
stands_allowed (Gives v) h k s = boolean_stands h.0 k (sym (ap (λ w. standing_of (Gives w)) h.1) ∙ s)
stands_allowed (Fails l) h k s = subst TypesAllow (ap (λ t. kind_in t l) s) h

pub valid_policies_stand : SetsAreFinite → ValidPoliciesStand
valid_policies_stand finite schema facts conforms may p valid e is q asked k s =
    stands_allowed (meaning facts (request_at q p.slots) p.condition)
    (valid_is finite schema facts conforms may p.condition valid e is (request_at q p.slots) asked) k s

pub never_errs_by : (k : Kind) → (TypesAllow k → ⊥) → SetsAreFinite → NeverErrsBy k
never_errs_by k refused finite schema facts conforms may p valid e is q asked s =
    refused (valid_policies_stand finite schema facts conforms may p valid e is q asked k s)

false_stands : (b : Bool) → b ≡ false → standing_of (Gives (Plain (Boolean b))) ≡ Satisfied → ⊥
false_stands true e h = never (sym e)
false_stands false e h = cc

not_satisfied : (facts : Facts) (request : Request) (d : Capabilities) (o : Outcome) → IsSound facts request (Booleans AlwaysFalse) d o →
    standing_of o ≡ Satisfied → ⊥
not_satisfied facts request d (Gives v) h s = false_stands h.0.0 h.0.2 (sym (ap (λ w. standing_of (Gives w)) h.0.1) ∙ s)
not_satisfied facts request d (Fails k) h s = cc

pub impossible_policies_are_never_satisfied : SetsAreFinite → ImpossiblePoliciesAreNeverSatisfied
impossible_policies_are_never_satisfied finite schema facts conforms may p impossible e is q asked s =
    let h = impossible e is in
    not_satisfied facts (request_at q p.slots) h.0 (meaning facts (request_at q p.slots) p.condition)
    (typed finite schema facts conforms may e is (request_at q p.slots) asked p.condition (Booleans AlwaysFalse) h.0 h.1) s
