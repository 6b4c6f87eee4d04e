-- Tests of values by types, as code makes them of contexts and of entities' attributes; and that parents are enough to look at.
use Rattle.std.specs.Prelude.{◌≡◌, ◌↔◌, Bool, true, false, not, ◌&&◌, List, [], ◌∷◌, Option, Some, None, is_some}
use Rattle.cedar_language.specs.Uid.{Text, Name, Uid}
use Rattle.cedar_language.specs.Tree.{Boolean, Long, String, Entity}
use Rattle.cedar_language.specs.Value.{Value, Plain, SetOf, RecordOf, ExtensionOf, Values, no_values, a_value}
use Rattle.cedar_language.specs.Order.{same_name}
use Rattle.cedar_language.specs.Operators.{found}
use Rattle.cedar_language.specs.Facts.{Facts, DecidesReaches}
use Rattle.cedar_language.specs.WellFormed.{IsWellFormed}
use Rattle.cedar_typing.specs.Types.{BoolType, AlwaysTrue, AlwaysFalse, Unsure, Presence, Required, Optional, CedarType, Booleans, Longs, Strings, Entities, Sets, Records, Extensions, Fields, no_fields, a_field, field_at, same_flag}
use Rattle.cedar_typing.specs.Conforming.{IsOf}

abbrev pub is_bool_of : BoolType → Bool → Bool
is_bool_of AlwaysTrue b = b
is_bool_of AlwaysFalse b = not b
is_bool_of Unsure b = true

abbrev pub fits_at : Presence → (Value → Bool) → Option Value → Bool
fits_at Required f None = false
fits_at Optional f None = true
fits_at Required f (Some v) = f v
fits_at Optional f (Some v) = f v

abbrev pub all_are : (Value → Bool) → Values → Bool
all_are f no_values = true
all_are f (a_value v vs) = f v && all_are f vs

abbrev pub are_declared : Fields → List Text → Bool
are_declared fs [] = true
are_declared fs (k ∷ ks) = is_some (field_at fs k) && are_declared fs ks

abbrev mutual
  pub is_value_of : CedarType → Value → Bool
  is_value_of (Booleans t) (Plain (Boolean b)) = is_bool_of t b
  is_value_of Longs (Plain (Long n)) = true
  is_value_of Strings (Plain (String s)) = true
  is_value_of (Entities n) (Plain (Entity u)) = same_name u.type_name n
  is_value_of (Sets t) (SetOf vs) = all_are (is_value_of t) vs
  is_value_of (Records fs) (RecordOf ks vs) = are_declared fs ks && fits fs (found ks vs)
  is_value_of (Extensions n o) (ExtensionOf e) = same_name e.type_name n && same_flag e.ordered o
  is_value_of t v = false

  pub fits : Fields → (Text → Option Value) → Bool
  fits no_fields look = true
  fits (a_field k p t fs) look = fits_at p (is_value_of t) (look k) && fits fs look

-- a value as it stands in code is of a type exactly where it passes the test
abbrev pub TypesAreDecided : Type 0
TypesAreDecided = (t : CedarType) (v : Value) → IsWellFormed v → (is_value_of t v ≡ true) ↔ IsOf t v

-- where each parent is of a type that may stand there, each ancestor is
abbrev pub ParentsAreEnough : Type 0
ParentsAreEnough =
    (is_parent : Uid → Uid → Bool) (facts : Facts) → DecidesReaches (λ u w. is_parent u w ≡ true) facts → (may_reach : Name → Name → Bool) →
    ((n m k : Name) → may_reach n m ≡ true → may_reach m k ≡ true → may_reach n k ≡ true) →
    ((u w : Uid) → is_parent u w ≡ true → may_reach u.type_name w.type_name ≡ true) →
    (u w : Uid) → facts.reaches u w ≡ true → may_reach u.type_name w.type_name ≡ true
