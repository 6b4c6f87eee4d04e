-- The least type above two holds the values of both.
use Rattle.std.proofs.Common.{◌≡◌, Bool, true, false, ◌&&◌, cond, Option, Some, None, refl, sym, ◌∙◌}
use Rattle.std.specs.Option.{option_map}
use Rattle.cedar_language.proofs.Booleans.{and_left, and_right}
use Rattle.cedar_language.specs.Uid.{Text, Name}
use Rattle.cedar_language.specs.Value.{Value}
use Rattle.cedar_language.specs.Order.{same_text, same_name}
use Rattle.cedar_typing.specs.Types.{BoolType, AlwaysTrue, AlwaysFalse, Presence, Required, Optional, CedarType, Booleans, Longs, Strings, Entities, Sets, Records, Extensions, Fields, no_fields, a_field, Field, field_at, lub_bool, same_presence, same_flag, and_field, lub, lub_fields}
use Rattle.cedar_typing.specs.Conforming.{IsBoolOf, FitsAt, IsOf, Fit}
use Rattle.cedar_typing.proofs.Sameness.{never, text_is, name_is}

abbrev pub IsAbove : Option CedarType → CedarType → CedarType → Type 0
IsAbove (Some c) a b = (v : Value) → (IsOf a v → IsOf c v) × (IsOf b v → IsOf c v)
IsAbove None a b = Unit {0}

-- fields that are above: what fits one fits them, and they have no other names
pub record IsWider (hs fs : Fields) : Type 0 where
  pub fits : (look : Text → Option Value) → Fit fs look → Fit hs look
  pub names : (a : Text) → field_at hs a ≡ None → field_at fs a ≡ None

abbrev pub AreAbove : Option Fields → Fields → Fields → Type 0
AreAbove (Some hs) fs gs = IsWider hs fs × IsWider hs gs
AreAbove None fs gs = Unit {0}

truth_left : (t u : BoolType) (b : Bool) → IsBoolOf t b → IsBoolOf (lub_bool t u) b
truth_left AlwaysTrue AlwaysTrue b h = h
truth_left AlwaysFalse AlwaysFalse b h = h
truth_left t u b h = tt

truth_right : (t u : BoolType) (b : Bool) → IsBoolOf u b → IsBoolOf (lub_bool t u) b
truth_right AlwaysTrue AlwaysTrue b h = h
truth_right AlwaysFalse AlwaysFalse b h = h
truth_right t u b h = tt

flag_is : (x y : Bool) → same_flag x y ≡ true → x ≡ y
flag_is true true h = refl
flag_is false false h = refl
flag_is x y h = never h

presence_is : (p q : Presence) → same_presence p q ≡ true → p ≡ q
presence_is Required Required h = refl
presence_is Optional Optional h = refl
presence_is p q h = never h

pub fits_more : (p : Presence) (P Q : Value → Type 0) (o : Option Value) → ((v : Value) → P v → Q v) → FitsAt p P o → FitsAt p Q o
fits_more Required P Q None f h = absurd h
fits_more Optional P Q None f h = tt
fits_more Required P Q (Some v) f h = f v h
fits_more Optional P Q (Some v) f h = f v h

entity_above : (n m : Name) (b : Bool) → same_name n m ≡ b → IsAbove (cond b (Some (Entities n)) None) (Entities n) (Entities m)
entity_above n m true e = λ v. (λ h. h, λ h. (h.0, h.1, h.2 ∙ sym (name_is n m e)))
entity_above n m false e = tt

extension_above : (n m : Name) (x y : Bool) (b : Bool) → (same_name n m && same_flag x y) ≡ b →
    IsAbove (cond b (Some (Extensions n x)) None) (Extensions n x) (Extensions m y)
extension_above n m x y true e = λ v. (
  λ h. h,
  λ h. (h.0, h.1, h.2 ∙ sym (name_is n m (and_left (same_name n m) (same_flag x y) e)), h.3 ∙ sym (flag_is x y (and_right (same_name n m) (same_flag x y) e))),
)
extension_above n m x y false e = tt

set_above : (a b : CedarType) (o : Option CedarType) → IsAbove o a b → IsAbove (option_map Sets o) (Sets a) (Sets b)
set_above a b (Some c) h = λ v. (λ k. (k.0, k.1, λ w m. (h w).0 (k.2 w m)), λ k. (k.0, k.1, λ w m. (h w).1 (k.2 w m)))
set_above a b None h = tt

record_above : (fs gs : Fields) (o : Option Fields) → AreAbove o fs gs → IsAbove (option_map Records o) (Records fs) (Records gs)
record_above fs gs (Some hs) h = λ v. (
  λ k. (k.0, k.1, k.2, h.0.fits _ k.3, λ a n. k.4 a (h.0.names a n)),
  λ k. (k.0, k.1, k.2, h.1.fits _ k.3, λ a n. k.4 a (h.1.names a n)),
)
record_above fs gs None h = tt

names_more : (k a : Text) (b : Bool) (x y : Field) (o p : Option Field) → (o ≡ None → p ≡ None) → cond b (Some x) o ≡ None → cond b (Some y) p ≡ None
names_more k a true x y o p f h = cc
names_more k a false x y o p f h = f h

wider_left : (k : Text) (p : Presence) (a c : CedarType) (fs hs : Fields) → ((v : Value) → IsOf a v → IsOf c v) → IsWider hs fs →
    IsWider (a_field k p c hs) (a_field k p a fs)
wider_left k p a c fs hs f w = record {
  fits = λ look h. (fits_more p (IsOf a) (IsOf c) (look k) f h.0, w.fits look h.1);
  names = λ x. names_more k x (same_text k x) _ _ (field_at hs x) (field_at fs x) (w.names x);
}

wider_right : (k l : Text) (p q : Presence) (b c : CedarType) (gs hs : Fields) → k ≡ l → p ≡ q → ((v : Value) → IsOf b v → IsOf c v) → IsWider hs gs →
    IsWider (a_field k p c hs) (a_field l q b gs)
wider_right k l p q b c gs hs e i f w = rw (← e, ← i) (wider_left k p b c gs hs f w)

fields_above : (k l : Text) (p q : Presence) (a b : CedarType) (fs gs : Fields) (test : Bool) → (same_text k l && same_presence p q) ≡ test →
    (o : Option CedarType) → IsAbove o a b → (r : Option Fields) → AreAbove r fs gs →
    AreAbove (cond test (and_field k p o r) None) (a_field k p a fs) (a_field l q b gs)
fields_above k l p q a b fs gs true e (Some c) h (Some hs) i = (
  wider_left k p a c fs hs (λ v. (h v).0) i.0,
  wider_right k l p q b c gs hs (text_is k l (and_left (same_text k l) (same_presence p q) e))
      (presence_is p q (and_right (same_text k l) (same_presence p q) e)) (λ v. (h v).1) i.1,
)
fields_above k l p q a b fs gs true e (Some c) h None i = tt
fields_above k l p q a b fs gs true e None h r i = tt
fields_above k l p q a b fs gs false e o h r i = tt

mutual
  pub lub_above : (a b : CedarType) → IsAbove (lub a b) a b
  lub_above (Booleans t) (Booleans u) = λ v. (λ h. (h.0, h.1, truth_left t u h.0 h.2), λ h. (h.0, h.1, truth_right t u h.0 h.2))
  lub_above Longs Longs = λ v. (λ h. h, λ h. h)
  lub_above Strings Strings = λ v. (λ h. h, λ h. h)
  lub_above (Entities n) (Entities m) = entity_above n m (same_name n m) refl
  lub_above (Sets a) (Sets b) = set_above a b (lub a b) (lub_above a b)
  lub_above (Records fs) (Records gs) = record_above fs gs (lub_fields fs gs) (lub_fields_above fs gs)
  lub_above (Extensions n x) (Extensions m y) = extension_above n m x y (same_name n m && same_flag x y) refl
  lub_above a b = tt

  pub lub_fields_above : (fs gs : Fields) → AreAbove (lub_fields fs gs) fs gs
  lub_fields_above no_fields no_fields = (record { fits = λ look h. h; names = λ a h. h }, record { fits = λ look h. h; names = λ a h. h })
  lub_fields_above (a_field k p a fs) (a_field l q b gs) =
      fields_above k l p q a b fs gs (same_text k l && same_presence p q) refl (lub a b) (lub_above a b) (lub_fields fs gs) (lub_fields_above fs gs)
  lub_fields_above fs gs = tt
