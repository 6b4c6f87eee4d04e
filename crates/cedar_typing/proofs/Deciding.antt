-- Tests by types are sound, and parents are enough to look at.
use Rattle.std.proofs.Common.{arith, ◌≡◌, IsTrue, Bool, true, false, not, cond, List, [], ◌∷◌, Option, Some, None, refl, sym, ap, ◌∙◌, subst, inl, inr}
use Rattle.std.specs.Prelude.{is_some, length, ◌||◌}
use Rattle.cedar_language.proofs.Booleans.{or_cases, or_left, or_right, and_left, and_right, and_both}
use Rattle.cedar_language.specs.Uid.{Text, Name, Uid}
use Rattle.cedar_language.specs.Tree.{Boolean, Long, String, Entity}
use Rattle.cedar_language.specs.Value.{Value, Plain, SetOf, RecordOf, ExtensionOf, Values, no_values, a_value}
use Rattle.cedar_language.specs.Order.{same, same_text, same_name}
use Rattle.cedar_language.specs.OrderLaws.{same_is, is_same}
use Rattle.cedar_language.specs.Facts.{Reaches, edge, further}
use Rattle.cedar_language.specs.Operators.{found, has_member, count}
use Rattle.cedar_language.specs.WellFormed.{IsWellFormed, AreWellFormed}
use Rattle.cedar_typing.specs.Containers.{is_key}
use Rattle.cedar_typing.specs.Types.{BoolType, AlwaysTrue, AlwaysFalse, Unsure, Presence, Required, Optional, CedarType, Booleans, Longs, Strings, Entities, Sets, Records, Extensions, Fields, no_fields, a_field, Field, field_at, same_flag}
use Rattle.cedar_typing.specs.Conforming.{IsBoolOf, FitsAt, IsClosed, IsOf, Fit}
use Rattle.cedar_typing.specs.Deciding.{is_bool_of, fits_at, all_are, are_declared, is_value_of, fits, TypesAreDecided, ParentsAreEnough}
use Rattle.cedar_typing.proofs.Sameness.{never, text_is, name_is, text_same, name_same}
use Rattle.cedar_typing.proofs.Containers.{apart}

truth_is : (t : BoolType) (b : Bool) → is_bool_of t b ≡ true → IsBoolOf t b
truth_is AlwaysTrue b h = h
truth_is AlwaysFalse true h = never h
truth_is AlwaysFalse false h = refl
truth_is Unsure b h = tt

flag_is : (x y : Bool) → same_flag x y ≡ true → x ≡ y
flag_is true true h = refl
flag_is false false h = refl
flag_is x y h = never h

fits_is : (p : Presence) (f : Value → Bool) (P : Value → Type 0) (o : Option Value) → ((v : Value) → f v ≡ true → P v) → fits_at p f o ≡ true → FitsAt p P o
fits_is Required f P None g h = never h
fits_is Optional f P None g h = tt
fits_is Required f P (Some v) g h = g v h
fits_is Optional f P (Some v) g h = g v h

member_is : (f : Value → Bool) (vs : Values) → all_are f vs ≡ true → (w : Value) → has_member vs w ≡ true → f w ≡ true
member_is f no_values h w m = never m
member_is f (a_value v vs) h w m = elim (or_cases (same v w) (has_member vs w) m) [
  | inl e ↦ subst (λ x. f x ≡ true) (same_is v w e) (and_left (f v) (all_are f vs) h)
  | inr k ↦ member_is f vs (and_right (f v) (all_are f vs) h) w k
]

none_declared : (o : Option Field) → o ≡ None → is_some o ≡ true → ⊥
none_declared (Some f) e h = cc
none_declared None e h = cc

found_if : (b : Bool) (k a : Text) (fs : Fields) (v : Value) (r : Option Value) → same_text k a ≡ b → field_at fs a ≡ None → is_some (field_at fs k) ≡ true →
    r ≡ None → cond b (Some v) r ≡ None
found_if true k a fs v r e n d h = absurd (none_declared (field_at fs k) (ap (field_at fs) (text_is k a e) ∙ n) d)
found_if false k a fs v r e n d h = h

closed_is : (fs : Fields) (ks : List Text) (vs : Values) → are_declared fs ks ≡ true → IsClosed fs (found ks vs)
closed_is fs [] vs h a n = refl
closed_is fs (k ∷ ks) no_values h a n = refl
closed_is fs (k ∷ ks) (a_value v vs) h a n =
    found_if (same_text k a) k a fs v (found ks vs a) refl n (and_left (is_some (field_at fs k)) (are_declared fs ks) h)
    (closed_is fs ks vs (and_right (is_some (field_at fs k)) (are_declared fs ks) h) a n)

mutual
  tested : (t : CedarType) (v : Value) → is_value_of t v ≡ true → IsOf t v
  tested (Booleans t) (Plain (Boolean b)) h = (b, refl, truth_is t b h)
  tested Longs (Plain (Long n)) h = (n, refl)
  tested Strings (Plain (String s)) h = (s, refl)
  tested (Entities n) (Plain (Entity u)) h = (u, refl, name_is u.type_name n h)
  tested (Sets t) (SetOf vs) h = (vs, refl, λ w m. tested t w (member_is (is_value_of t) vs h w m))
  tested (Records fs) (RecordOf ks vs) h = (
    ks,
    vs,
    refl,
    fit_is fs (found ks vs) (and_right (are_declared fs ks) (fits fs (found ks vs)) h),
    closed_is fs ks vs (and_left (are_declared fs ks) (fits fs (found ks vs)) h),
  )
  tested (Extensions n o) (ExtensionOf e) h = (
    e,
    refl,
    name_is e.type_name n (and_left (same_name e.type_name n) (same_flag e.ordered o) h),
    flag_is e.ordered o (and_right (same_name e.type_name n) (same_flag e.ordered o) h),
  )
  tested t v h = never h

  fit_is : (fs : Fields) (look : Text → Option Value) → fits fs look ≡ true → Fit fs look
  fit_is no_fields look h = tt
  fit_is (a_field k p t fs) look h = (
    fits_is p (is_value_of t) (IsOf t) (look k) (tested t) (and_left (fits_at p (is_value_of t) (look k)) (fits fs look) h),
    fit_is fs look (and_right (fits_at p (is_value_of t) (look k)) (fits fs look) h),
  )

-- ---- what is of a type passes

truth_passes : (t : BoolType) (b : Bool) → IsBoolOf t b → is_bool_of t b ≡ true
truth_passes AlwaysTrue b h = h
truth_passes AlwaysFalse b h = ap not h
truth_passes Unsure b h = refl

flag_passes : (x : Bool) → same_flag x x ≡ true
flag_passes true = refl
flag_passes false = refl

name_passes : (n m : Name) → n ≡ m → same_name n m ≡ true
name_passes n m e = subst (λ x. same_name n x ≡ true) e (name_same n)

fits_passes : (p : Presence) (f : Value → Bool) (P : Value → Type 0) (o : Option Value) → ((v : Value) → o ≡ Some v → P v → f v ≡ true) → FitsAt p P o →
    fits_at p f o ≡ true
fits_passes Required f P None g h = absurd h
fits_passes Optional f P None g h = refl
fits_passes Required f P (Some v) g h = g v refl h
fits_passes Optional f P (Some v) g h = g v refl h

all_pass : (f : Value → Bool) (vs : Values) → AreWellFormed vs → ((w : Value) → IsWellFormed w → has_member vs w ≡ true → f w ≡ true) → all_are f vs ≡ true
all_pass f no_values k h = refl
all_pass f (a_value v vs) k h =
    and_both (f v) (all_are f vs) (h v k.0 (or_left (same v v) (has_member vs v) (is_same v v refl)))
    (all_pass f vs k.1 (λ w i m. h w i (or_right (same v w) (has_member vs w) m)))

found_well_if : (b : Bool) (v w : Value) (o : Option Value) → IsWellFormed v → (o ≡ Some w → IsWellFormed w) → cond b (Some v) o ≡ Some w → IsWellFormed w
found_well_if true v w o h k e = let is : v ≡ w = cc in subst IsWellFormed is h
found_well_if false v w o h k e = k e

found_well : (ks : List Text) (vs : Values) (a : Text) (w : Value) → AreWellFormed vs → found ks vs a ≡ Some w → IsWellFormed w
found_well [] vs a w h e = cc
found_well (k ∷ ks) no_values a w h e = cc
found_well (k ∷ ks) (a_value v vs) a w h e = found_well_if (same_text k a) v w (found ks vs a) h.0 (found_well ks vs a w h.1) e

found_some_if : (b : Bool) (v : Value) (o : Option Value) → (b ≡ false → is_some o ≡ true) → is_some (cond b (Some v) o) ≡ true
found_some_if true v o h = refl
found_some_if false v o h = h refl

other_key : (b c : Bool) → (b || c) ≡ true → b ≡ false → c ≡ true
other_key true c h e = never (sym e)
other_key false c h e = h

found_some : (ks : List Text) (vs : Values) → length ks ≡ count vs → (a : Text) → is_key a ks ≡ true → is_some (found ks vs a) ≡ true
found_some [] vs n a h = never h
found_some (k ∷ ks) no_values n a h = absurd (not_none ks n)
  where
    not_none : (ks : List Text) → length (k ∷ ks) ≡ 0 → ⊥
    not_none ks n = grind arith
found_some (k ∷ ks) (a_value v vs) n a h =
    let m : length ks ≡ count vs = omega arith in
    found_some_if (same_text k a) v (found ks vs a) (λ e. found_some ks vs m a (other_key (same_text a k) (is_key a ks) h (apart k a e)))

all_declared : (fs : Fields) (ls : List Text) → ((k : Text) → is_key k ls ≡ true → is_some (field_at fs k) ≡ true) → are_declared fs ls ≡ true
all_declared fs [] h = refl
all_declared fs (l ∷ ls) h =
    and_both (is_some (field_at fs l)) (are_declared fs ls) (h l (or_left (same_text l l) (is_key l ls) (text_same l)))
    (all_declared fs ls (λ k m. h k (or_right (same_text k l) (is_key k ls) m)))

declared_if : (o : Option Field) (r : Option Value) → (o ≡ None → r ≡ None) → is_some r ≡ true → is_some o ≡ true
declared_if (Some f) r c h = refl
declared_if None r c h = never (sym (ap is_some (c refl)) ∙ h)

mutual
  passes : (t : CedarType) (v : Value) → IsWellFormed v → IsOf t v → is_value_of t v ≡ true
  passes (Booleans t) v w h = subst (λ x. is_value_of (Booleans t) x ≡ true) (sym h.1) (truth_passes t h.0 h.2)
  passes Longs v w h = subst (λ x. is_value_of Longs x ≡ true) (sym h.1) refl
  passes Strings v w h = subst (λ x. is_value_of Strings x ≡ true) (sym h.1) refl
  passes (Entities n) v w h = subst (λ x. is_value_of (Entities n) x ≡ true) (sym h.1) (name_passes h.0.type_name n h.2)
  passes (Sets t) v w h =
      subst (λ x. is_value_of (Sets t) x ≡ true) (sym h.1) (all_pass (is_value_of t) h.0 (subst IsWellFormed h.1 w).1 (λ x i m. passes t x i (h.2 x m)))
  passes (Records fs) v w h =
      let well = subst IsWellFormed h.2 w in
      subst (λ x. is_value_of (Records fs) x ≡ true) (sym h.2)
      (and_both (are_declared fs h.0) (fits fs (found h.0 h.1))
      (all_declared fs h.0 (λ k m. declared_if (field_at fs k) (found h.0 h.1 k) (h.4 k) (found_some h.0 h.1 well.1 k m)))
      (fit_passes fs (found h.0 h.1) (λ a x e. found_well h.0 h.1 a x well.2 e) h.3))
  passes (Extensions n o) v w h =
      subst (λ x. is_value_of (Extensions n o) x ≡ true) (sym h.1)
      (and_both (same_name h.0.type_name n) (same_flag h.0.ordered o) (name_passes h.0.type_name n h.2)
      (subst (λ x. same_flag h.0.ordered x ≡ true) h.3 (flag_passes h.0.ordered)))

  fit_passes : (fs : Fields) (look : Text → Option Value) → ((a : Text) (v : Value) → look a ≡ Some v → IsWellFormed v) → Fit fs look → fits fs look ≡ true
  fit_passes no_fields look well h = refl
  fit_passes (a_field k p t fs) look well h =
      and_both (fits_at p (is_value_of t) (look k)) (fits fs look) (fits_passes p (is_value_of t) (IsOf t) (look k) (λ v e. passes t v (well k v e)) h.0)
      (fit_passes fs look well h.1)

pub types_are_decided : TypesAreDecided
types_are_decided t v w = (tested t v, passes t v w)

module _ (is_parent : Uid → Uid → Bool) (may_reach : Name → Name → Bool)
    (joins : (n m k : Name) → may_reach n m ≡ true → may_reach m k ≡ true → may_reach n k ≡ true)
    (each : (u w : Uid) → is_parent u w ≡ true → may_reach u.type_name w.type_name ≡ true) where
  reached : (u w : Uid) → Reaches (λ a b. is_parent a b ≡ true) u w → may_reach u.type_name w.type_name ≡ true
  reached u w (edge p) = each u w p
  reached u w (further {b = b} p r) = joins u.type_name b.type_name w.type_name (each u b p) (reached b w r)

is_true : (b : Bool) → b ≡ true → IsTrue b
is_true b h = h

pub parents_are_enough : ParentsAreEnough
parents_are_enough is_parent facts decides may_reach joins each u w h =
    reached is_parent may_reach joins each u w ((decides u w).0 (is_true (facts.reaches u w) h))
