-- Operators that look at values alone.
use Rattle.std.proofs.Common.{◌≡◌, ℤ, Bool, true, false, not, cond, List, [], ◌∷◌, Option, Some, None, refl, ap}
use Rattle.std.specs.Prelude.{neg_ℤ, int_lt, int_le, chars}
use Rattle.std.specs.Ordering.{is_lt, is_le}
use Rattle.cedar_language.specs.Uid.{Name}
use Rattle.cedar_language.specs.Tree.{Long, PatternElem}
use Rattle.cedar_language.specs.Value.{Extension, Value, Plain, SetOf, Values, no_values, a_value, IntegerOverflow, Outcome, Gives, Fails}
use Rattle.cedar_language.specs.Order.{text_cmp, same_name}
use Rattle.cedar_language.specs.Pattern.{matches}
use Rattle.cedar_language.specs.Facts.{Facts}
use Rattle.cedar_language.specs.Meaning.{Request}
use Rattle.cedar_language.specs.Operators.{is_long, truth, not_of, negated, is_empty, are_comparable, less_of, less_eq_of, arithmetic, contains_of, of_two_sets, has_member, like_of, is_of}
use Rattle.cedar_typing.specs.Types.{BoolType, AlwaysTrue, AlwaysFalse, Unsure, CedarType, Booleans, Longs, Strings, Entities, Sets, Extensions, lub}
use Rattle.cedar_typing.specs.Schema.{EntityShape, Schema}
use Rattle.cedar_typing.specs.Faults.{UnexpectedType}
use Rattle.cedar_typing.specs.Results.{Typing, Faulty, plainly, known, unsure}
use Rattle.cedar_typing.specs.Plain.{not_bool, not_type, neg_type, is_empty_type, less_type, arithmetic_type, contains_type, two_sets_type, where_comparable, like_type, where_declared, is_type}
use Rattle.cedar_typing.specs.Conforming.{IsOf, IsBoolOf, AreOf}
use Rattle.cedar_typing.proofs.Sounding.{Sounds, unsure_sound, known_sound}

-- ---- operands of types, taken apart

pub one_of : (t : CedarType) (vs : Values) → AreOf (t ∷ []) vs → (v : Value) × (vs ≡ a_value v no_values) × IsOf t v
one_of t no_values h = absurd h
one_of t (a_value v no_values) h = (v, refl, h.0)
one_of t (a_value v (a_value w ws)) h = absurd h.1

pub two_of : (t u : CedarType) (vs : Values) → AreOf (t ∷ u ∷ []) vs → (v : Value) × (w : Value) × (vs ≡ a_value v (a_value w no_values)) × IsOf t v × IsOf u w
two_of t u no_values h = absurd h
two_of t u (a_value v no_values) h = absurd h.1
two_of t u (a_value v (a_value w no_values)) h = (v, w, refl, h.0, h.1.0)
two_of t u (a_value v (a_value w (a_value x xs))) h = absurd h.1.1

truth_not_is : (t : BoolType) (b : Bool) → IsBoolOf t b → IsBoolOf (not_bool t) (not b)
truth_not_is AlwaysTrue b h = ap not h
truth_not_is AlwaysFalse b h = ap not h
truth_not_is Unsure b h = tt

module _ (facts : Facts) (request : Request) where
  abbrev S : Typing → Outcome → Type 0
  S x o = Sounds facts request x o

  not_at : (t : BoolType) (v : Value) → IsOf (Booleans t) v → S (plainly (Booleans (not_bool t))) (not_of (a_value v no_values))
  not_at t v h = rw h.1 ((not h.0, refl, truth_not_is t h.0 h.2), λ _. tt)

  pub not_sound : (ts : List CedarType) (vs : Values) → AreOf ts vs → S (not_type ts) (not_of vs)
  not_sound (Booleans t ∷ []) vs h = let o = one_of (Booleans t) vs h in rw o.1 (not_at t o.0 o.2)
  not_sound ts vs h = tt

  checked_sound : (n : ℤ) (b : Bool) → S (plainly Longs) (cond b (Gives (Plain (Long n))) (Fails IntegerOverflow))
  checked_sound n true = ((n, refl), λ _. tt)
  checked_sound n false = tt

  neg_at : (v : Value) → IsOf Longs v → S (plainly Longs) (negated (a_value v no_values))
  neg_at v h = rw h.1 (checked_sound (neg_ℤ h.0) (is_long (neg_ℤ h.0)))

  pub neg_sound : (ts : List CedarType) (vs : Values) → AreOf ts vs → S (neg_type ts) (negated vs)
  neg_sound (Longs ∷ []) vs h = let o = one_of Longs vs h in rw o.1 (neg_at o.0 o.2)
  neg_sound ts vs h = tt

  empty_of : (ws : Values) → S unsure (is_empty (a_value (SetOf ws) no_values))
  empty_of no_values = unsure_sound facts request true
  empty_of (a_value w ws) = unsure_sound facts request false

  empty_at : (t : CedarType) (v : Value) → IsOf (Sets t) v → S unsure (is_empty (a_value v no_values))
  empty_at t v h = rw h.1 (empty_of h.0)

  pub is_empty_sound : (ts : List CedarType) (vs : Values) → AreOf ts vs → S (is_empty_type ts) (is_empty vs)
  is_empty_sound (Sets t ∷ []) vs h = let o = one_of (Sets t) vs h in rw o.1 (empty_at t o.0 o.2)
  is_empty_sound ts vs h = tt

  arithmetic_at : (f : ℤ → ℤ → ℤ) (v w : Value) → IsOf Longs v → IsOf Longs w → S (plainly Longs) (arithmetic f (a_value v (a_value w no_values)))
  arithmetic_at f v w h k = rw (h.1, k.1) (checked_sound (f h.0 k.0) (is_long (f h.0 k.0)))

  pub arithmetic_sound : (f : ℤ → ℤ → ℤ) (ts : List CedarType) (vs : Values) → AreOf ts vs → S (arithmetic_type ts) (arithmetic f vs)
  arithmetic_sound f (Longs ∷ Longs ∷ []) vs h = let o = two_of Longs Longs vs h in rw o.2 (arithmetic_at f o.0 o.1 o.3 o.4)
  arithmetic_sound f ts vs h = tt

  -- ---- `<` and `<=`

  less_longs : (v w : Value) → IsOf Longs v → IsOf Longs w → S unsure (less_of (a_value v (a_value w no_values)))
  less_longs v w h k = rw (h.1, k.1) (unsure_sound facts request (int_lt h.0 k.0))

  less_eq_longs : (v w : Value) → IsOf Longs v → IsOf Longs w → S unsure (less_eq_of (a_value v (a_value w no_values)))
  less_eq_longs v w h k = rw (h.1, k.1) (unsure_sound facts request (int_le h.0 k.0))

  comparable : (n m : Name) (x y : Extension) → x.type_name ≡ n → y.type_name ≡ m → x.ordered ≡ true → y.ordered ≡ true → same_name n m ≡ true →
      are_comparable x y ≡ true
  comparable n m x y e f o p s = rw (e, f, o, p, s) refl

  less_extensions : (n m : Name) (v w : Value) → IsOf (Extensions n true) v → IsOf (Extensions m true) w → (b : Bool) → same_name n m ≡ b →
      S (cond b unsure (Faulty UnexpectedType)) (less_of (a_value v (a_value w no_values)))
  less_extensions n m v w h k true e =
      rw (h.1, k.1, comparable n m h.0 k.0 h.2 k.2 h.3 k.3 e) (unsure_sound facts request (is_lt (text_cmp h.0.key k.0.key)))
  less_extensions n m v w h k false e = tt

  less_eq_extensions : (n m : Name) (v w : Value) → IsOf (Extensions n true) v → IsOf (Extensions m true) w → (b : Bool) → same_name n m ≡ b →
      S (cond b unsure (Faulty UnexpectedType)) (less_eq_of (a_value v (a_value w no_values)))
  less_eq_extensions n m v w h k true e =
      rw (h.1, k.1, comparable n m h.0 k.0 h.2 k.2 h.3 k.3 e) (unsure_sound facts request (is_le (text_cmp h.0.key k.0.key)))
  less_eq_extensions n m v w h k false e = tt

  pub less_sound : (ts : List CedarType) (vs : Values) → AreOf ts vs → S (less_type ts) (less_of vs)
  less_sound (Longs ∷ Longs ∷ []) vs h = let o = two_of Longs Longs vs h in rw o.2 (less_longs o.0 o.1 o.3 o.4)
  less_sound (Extensions n true ∷ Extensions m true ∷ []) vs h =
      let o = two_of (Extensions n true) (Extensions m true) vs h in rw o.2 (less_extensions n m o.0 o.1 o.3 o.4 (same_name n m) refl)
  less_sound ts vs h = tt

  pub less_eq_sound : (ts : List CedarType) (vs : Values) → AreOf ts vs → S (less_type ts) (less_eq_of vs)
  less_eq_sound (Longs ∷ Longs ∷ []) vs h = let o = two_of Longs Longs vs h in rw o.2 (less_eq_longs o.0 o.1 o.3 o.4)
  less_eq_sound (Extensions n true ∷ Extensions m true ∷ []) vs h =
      let o = two_of (Extensions n true) (Extensions m true) vs h in rw o.2 (less_eq_extensions n m o.0 o.1 o.3 o.4 (same_name n m) refl)
  less_eq_sound ts vs h = tt

  -- ---- sets

  comparable_sound : (o : Option CedarType) (b : Bool) → S (where_comparable o) (truth b)
  comparable_sound (Some t) b = unsure_sound facts request b
  comparable_sound None b = tt

  contains_at : (t u : CedarType) (v w : Value) → IsOf (Sets t) v → S (where_comparable (lub t u)) (contains_of (a_value v (a_value w no_values)))
  contains_at t u v w h = rw h.1 (comparable_sound (lub t u) (has_member h.0 w))

  pub contains_sound : (ts : List CedarType) (vs : Values) → AreOf ts vs → S (contains_type ts) (contains_of vs)
  contains_sound (Sets t ∷ u ∷ []) vs h = let o = two_of (Sets t) u vs h in rw o.2 (contains_at t u o.0 o.1 o.3)
  contains_sound ts vs h = tt

  two_sets_at : (f : Values → Values → Bool) (t u : CedarType) (v w : Value) → IsOf (Sets t) v → IsOf (Sets u) w →
      S (where_comparable (lub t u)) (of_two_sets f (a_value v (a_value w no_values)))
  two_sets_at f t u v w h k = rw (h.1, k.1) (comparable_sound (lub t u) (f h.0 k.0))

  pub two_sets_sound : (f : Values → Values → Bool) (ts : List CedarType) (vs : Values) → AreOf ts vs → S (two_sets_type ts) (of_two_sets f vs)
  two_sets_sound f (Sets t ∷ Sets u ∷ []) vs h = let o = two_of (Sets t) (Sets u) vs h in rw o.2 (two_sets_at f t u o.0 o.1 o.3 o.4)
  two_sets_sound f ts vs h = tt

  -- ---- `like` and `is`

  like_at : (ps : List PatternElem) (v : Value) → IsOf Strings v → S unsure (like_of ps (a_value v no_values))
  like_at ps v h = rw h.1 (unsure_sound facts request (matches ps (chars h.0)))

  pub like_sound : (ps : List PatternElem) (ts : List CedarType) (vs : Values) → AreOf ts vs → S (like_type ts) (like_of ps vs)
  like_sound ps (Strings ∷ []) vs h = let o = one_of Strings vs h in rw o.1 (like_at ps o.0 o.2)
  like_sound ps ts vs h = tt

  declared_sound : (o : Option EntityShape) (x : Typing) (p : Outcome) → S x p → S (where_declared o x) p
  declared_sound (Some s) x p h = h
  declared_sound None x p h = tt

  is_at : (n m : Name) (v : Value) → IsOf (Entities m) v → S (known (same_name m n)) (is_of n (a_value v no_values))
  is_at n m v h = rw (h.1, h.2) (known_sound facts request (same_name m n) (same_name m n) refl)

  pub is_sound : (s : Schema) (n : Name) (ts : List CedarType) (vs : Values) → AreOf ts vs → S (is_type s n ts) (is_of n vs)
  is_sound s n (Entities m ∷ []) vs h =
      let o = one_of (Entities m) vs h in
      declared_sound (s.entity n) (known (same_name m n)) (is_of n vs) (rw o.1 (is_at n m o.0 o.2))
  is_sound s n ts vs h = tt
