-- Sets of values are finite sets.
use Rattle.std.proofs.Common.{◌≡◌, Bool, true, false, ◌||◌, refl, sym, ◌∙◌, ap, ◌⊎◌, inl, inr, true≢false}
use Rattle.std.specs.Ordering.{ordering_reverse, is_eq}
use Rattle.std.specs.declared.cmp.Ordering.{Ordering}
use Rattle.std.specs.declared.cmp.Ordering.TheVariants as ordering
use Rattle.std.specs.List.Sorted.{IsStrictlySortedBy}
use Rattle.std.specs.List.{AllByRecursion}
use Rattle.cedar_language.specs.Value.{Value, Values, no_values, a_value}
use Rattle.cedar_language.specs.Order.{value_cmp, same, members, IsRising, placed, put, rising}
use Rattle.cedar_language.specs.OrderLaws.{value_cmp_total, value_cmp_same, same_is, is_same}
use Rattle.cedar_language.specs.Operators.{has_member}
use Rattle.cedar_language.specs.Sets.{SetsAreFinite}
use Rattle.cedar_language.proofs.Rising.{rising_rises, rising_same}

abbrev AllAbove : Value → Values → Type 0
AllAbove v vs = AllByRecursion (λ w. value_cmp v w ≡ ordering.Less) (members vs)

or_true : (x y : Bool) → (x || y) ≡ true → (x ≡ true) ⊎ (y ≡ true)
or_true true y h = inl refl
or_true false y h = inr h

or_right : (x y : Bool) → y ≡ true → (x || y) ≡ true
or_right true y h = refl
or_right false y h = h

or_twice : (x y : Bool) → (x || y) ≡ (x || (x || y))
or_twice true y = refl
or_twice false y = refl

or_swap : (x y z : Bool) → (x || (y || z)) ≡ (y || (x || z))
or_swap true true z = refl
or_swap true false z = refl
or_swap false true z = refl
or_swap false false z = refl

-- ---- members of a set that is made

placed_members : (o : Ordering) (w x : Value) (xs vs : Values) (v : Value) → value_cmp w x ≡ o → has_member vs v ≡ (same w v || has_member xs v) →
    has_member (placed o w x xs vs) v ≡ (same w v || (same x v || has_member xs v))
placed_members ordering.Less w x xs vs v e h = refl
placed_members ordering.Equal w x xs vs v e h =
    let is : w ≡ x = value_cmp_same w x e in
    rw is (or_twice (same x v) (has_member xs v))
placed_members ordering.Greater w x xs vs v e h = rw h (or_swap (same x v) (same w v) (has_member xs v))

put_members : (w : Value) (vs : Values) (v : Value) → has_member (put w vs) v ≡ (same w v || has_member vs v)
put_members w no_values v = refl
put_members w (a_value x xs) v = placed_members (value_cmp w x) w x xs (put w xs) v refl (put_members w xs v)

rising_members : (vs : Values) (v : Value) → has_member (rising vs) v ≡ has_member vs v
rising_members no_values v = refl
rising_members (a_value w vs) v = put_members w (rising vs) v ∙ ap (λ b. same w v || b) (rising_members vs v)

-- ---- members tell sets apart

below_not_same : (v w : Value) → value_cmp v w ≡ ordering.Less → same v w ≡ false
below_not_same v w h = ap is_eq h

above_not_same : (v w : Value) → value_cmp v w ≡ ordering.Less → same w v ≡ false
above_not_same v w h = ap is_eq (value_cmp_total.antisymm w v ∙ ap ordering_reverse h)

not_below : (v : Value) (ws : Values) → AllAbove v ws → has_member ws v ≡ false
not_below v no_values h = refl
not_below v (a_value w ws) h = rw (above_not_same v w h.0) (not_below v ws h.1)

member_above : (v w : Value) (ws : Values) → AllAbove v ws → has_member ws w ≡ true → value_cmp v w ≡ ordering.Less
member_above v w no_values h m = absurd (true≢false (sym m))
member_above v w (a_value x xs) h m =
    elim (or_true (same x w) (has_member xs w) m) [ inl e ↦ rw (← same_is x w e) h.0 | inr k ↦ member_above v w xs h.1 k ]

less_both : (v w : Value) → value_cmp v w ≡ ordering.Less → value_cmp w v ≡ ordering.Less → ⊥
less_both v w h k =
    let e : ordering.Greater ≡ ordering.Less = sym (value_cmp_total.antisymm w v ∙ ap ordering_reverse h) ∙ k in cc

first_same : (v w : Value) (vs ws : Values) → AllAbove v vs → AllAbove w ws → ((x : Value) → has_member (a_value v vs) x ≡ has_member (a_value w ws) x) → v ≡ w
first_same v w vs ws h k f =
    let there : (same w v || has_member ws v) ≡ true = sym (f v) ∙ ap (λ b. b || has_member vs v) (is_same v v refl) in
    let back : (same v w || has_member vs w) ≡ true = f w ∙ ap (λ b. b || has_member ws w) (is_same w w refl) in
    elim (or_true (same w v) (has_member ws v) there) [
      | inl e ↦ sym (same_is w v e)
      | inr m ↦ elim (or_true (same v w) (has_member vs w) back) [
        | inl e ↦ same_is v w e
        | inr n ↦ absurd (less_both v w (member_above v w vs h n) (member_above w v ws k m))
      ]
    ]

rest_same : (v x : Value) (vs ws : Values) (b : Bool) → same v x ≡ b → AllAbove v vs → AllAbove v ws → (same v x || has_member vs x) ≡ (same v x || has_member ws x) → has_member vs x ≡ has_member ws x
rest_same v x vs ws true e h k f =
    let is : v ≡ x = same_is v x e in
    rw (← is) (not_below v vs h ∙ sym (not_below v ws k))
rest_same v x vs ws false e h k f = rw e at f

by_members : (vs ws : Values) → IsRising vs → IsRising ws → ((v : Value) → has_member vs v ≡ has_member ws v) → vs ≡ ws
unfolding IsStrictlySortedBy
by_members no_values no_values h k f = refl
by_members no_values (a_value w ws) h k f = absurd (true≢false (sym (f w ∙ ap (λ b. b || has_member ws w) (is_same w w refl))))
by_members (a_value v vs) no_values h k f = absurd (true≢false (sym (ap (λ b. b || has_member vs v) (is_same v v refl)) ∙ f v))
by_members (a_value v vs) (a_value w ws) h k f =
    let first : v ≡ w = first_same v w vs ws h.0 k.0 f in
    let above : AllAbove v ws = rw first k.0 in
    let rest : vs ≡ ws = by_members vs ws h.1 k.1 (λ x. rest_same v x vs ws (same v x) refl h.0 above (rw (← first) at (f x))) in
    rw (first, rest) refl

pub sets_are_finite : SetsAreFinite
sets_are_finite = record {
  by_members = by_members;
  rises = rising_rises;
  members = rising_members;
  kept = rising_same;
}
