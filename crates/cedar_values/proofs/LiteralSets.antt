-- Values that are literals, and the literals among values.
use Rattle.std.proofs.Common.{◌≡◌, ◌≢◌, ◌↔◌, ◌⊎◌, inl, inr, ◌∙◌, zero, suc, List, [], ◌∷◌, length, get_or, true, false, true≢false, refl, sym, ap, None, Some, arith}
use Rattle.std.proofs.lemmas.List.Elements.{All-contains, Contains-get_or, Contains-append_right}
use Rattle.std.proofs.lemmas.List.Sums.{AllPass-from_list_all, list_all-from_AllPass}
use Rattle.std.specs.List.{Contains}
use Rattle.std.specs.Option.{is_some}
use Rattle.cedar_language.specs.Operators.{has_all}
use Rattle.cedar_language.specs.Order.{all_of}
use Rattle.cedar_language.specs.Tree.{Literal}
use Rattle.cedar_language.specs.Value.{Value, Plain, SetOf, RecordOf, ExtensionOf}
use Rattle.cedar_values.specs.LiteralSets.{is_literal, are_literals, literals_among}
use Rattle.cedar_values.specs.Readers.{literal_in}
use Rattle.cedar_values.proofs.Sets.{subset_is, not_false}

-- ---- members of a set of literals

member_literal : (vs : List Value) (v : Value) → are_literals vs ≡ true → Contains vs v → is_literal v ≡ true
member_literal vs v h m = All-contains (λ w. is_literal w ≡ true) vs v (AllPass-from_list_all is_literal vs h) m

plain_at : (v : Value) → is_literal v ≡ true → (l : Literal) × (v ≡ Plain l)
plain_at (Plain l) h = (l, refl)
plain_at (SetOf ws) h = absurd (true≢false (sym h))
plain_at (RecordOf ks ws) h = absurd (true≢false (sym h))
plain_at (ExtensionOf e) h = absurd (true≢false (sym h))

pub plain_is : (v : Value) (l : Literal) → literal_in v ≡ Some l → v ≡ Plain l
plain_is (Plain m) l h = cc
plain_is (SetOf ws) l h = absurd (cc)
plain_is (RecordOf ks ws) l h = absurd (cc)
plain_is (ExtensionOf e) l h = absurd (cc)

-- what is no literal is no member
pub no_member : (vs : List Value) (v : Value) → are_literals vs ≡ true → literal_in v ≡ None → Contains vs v → ⊥
no_member vs v h e m = true≢false (sym (member_literal vs v h m) ∙ ap is_some e)

-- nor are values that aren't all literals a subset
pub no_subset : (vs ws : List Value) → are_literals vs ≡ false → are_literals ws ≡ true → has_all (all_of ws) (all_of vs) ≡ false
no_subset vs ws n h = not_false (has_all (all_of ws) (all_of vs))
    (λ t.
    let all : are_literals vs ≡ true = list_all-from_AllPass is_literal vs
    (λ k d l. member_literal ws (get_or vs k d) h ((subset_is vs ws).0 t (get_or vs k d) (Contains-get_or vs k d l))) in
    true≢false (sym all ∙ n))

-- ---- the literals among values

plain_inj : (l m : Literal) → Plain l ≡ Plain m → l ≡ m
plain_inj l m e = cc

first_or_later : {X : Type 0} (y : X) (ys : List X) (x : X) → Contains (y ∷ ys) x → (y ≡ x) ⊎ Contains ys x
first_or_later y ys x (zero, l, e) = inl e
first_or_later y ys x (suc k, l, e) = inr (k, omega (arith, l), e)

later : {X : Type 0} (y : X) (ys : List X) (x : X) → Contains ys x → Contains (y ∷ ys) x
later y ys x m = Contains-append_right (y ∷ []) ys x m

pub among : (vs : List Value) (l : Literal) → Contains vs (Plain l) → Contains (literals_among vs) l
among [] l m = absurd (omega (arith, m.1))
among (Plain k ∷ vs) l m = elim (first_or_later (Plain k) vs (Plain l) m) [
  | inl e ↦ (0, omega arith, plain_inj k l e)
  | inr n ↦ later k (literals_among vs) l (among vs l n)
]
among (SetOf ws ∷ vs) l m = elim (first_or_later (SetOf ws) vs (Plain l) m) [
  | inl e ↦ absurd (cc)
  | inr n ↦ among vs l n
]
among (RecordOf ks ws ∷ vs) l m = elim (first_or_later (RecordOf ks ws) vs (Plain l) m) [
  | inl e ↦ absurd (cc)
  | inr n ↦ among vs l n
]
among (ExtensionOf x ∷ vs) l m = elim (first_or_later (ExtensionOf x) vs (Plain l) m) [
  | inl e ↦ absurd (cc)
  | inr n ↦ among vs l n
]

pub from_among : (vs : List Value) (l : Literal) → Contains (literals_among vs) l → Contains vs (Plain l)
from_among [] l m = absurd (omega (arith, m.1))
from_among (Plain k ∷ vs) l m = elim (first_or_later k (literals_among vs) l m) [
  | inl e ↦ (0, omega arith, ap Plain e)
  | inr n ↦ later (Plain k) vs (Plain l) (from_among vs l n)
]
from_among (SetOf ws ∷ vs) l m = later (SetOf ws) vs (Plain l) (from_among vs l m)
from_among (RecordOf ks ws ∷ vs) l m = later (RecordOf ks ws) vs (Plain l) (from_among vs l m)
from_among (ExtensionOf x ∷ vs) l m = later (ExtensionOf x) vs (Plain l) (from_among vs l m)

-- where all are literals, there are as many
pub as_many : (vs : List Value) → are_literals vs ≡ true → length (literals_among vs) ≡ length vs
as_many [] h = refl
as_many (Plain l ∷ vs) h = ap suc (as_many vs h)
as_many (SetOf ws ∷ vs) h = absurd (true≢false (sym h))
as_many (RecordOf ks ws ∷ vs) h = absurd (true≢false (sym h))
as_many (ExtensionOf e ∷ vs) h = absurd (true≢false (sym h))

no_length : {X : Type 0} (xs : List X) → length xs ≡ 0 → xs ≡ []
no_length [] h = refl
no_length (x ∷ xs) h = absurd (omega (arith, h))

pub none_among : (vs : List Value) → are_literals vs ≡ true → literals_among vs ≡ [] → vs ≡ []
none_among vs h e = no_length vs (sym (as_many vs h) ∙ ap length e)

-- ---- subsets and disjoint sets

pub subset_among : (vs ws : List Value) → are_literals vs ≡ true → ((v : Value) → Contains vs v → Contains ws v) ↔ ((l : Literal) → Contains (literals_among vs) l → Contains (literals_among ws) l)
subset_among vs ws h = (
  λ f l m. among ws l (f (Plain l) (from_among vs l m)),
  λ f v m.
      let p = plain_at v (member_literal vs v h m) in
      rw p.1 (from_among ws p.0 (f p.0 (among vs p.0 (rw p.1 at m)))),
)

pub disjoint_among : (vs ws : List Value) → are_literals vs ≡ true → ((v : Value) → Contains vs v → Contains ws v → ⊥) ↔ ((l : Literal) → Contains (literals_among vs) l → Contains (literals_among ws) l → ⊥)
disjoint_among vs ws h = (
  λ f l m n. f (Plain l) (from_among vs l m) (from_among ws l n),
  λ f v m n.
      let p = plain_at v (member_literal vs v h m) in
      f p.0 (among vs p.0 (rw p.1 at m)) (among ws p.0 (rw p.1 at n)),
)
