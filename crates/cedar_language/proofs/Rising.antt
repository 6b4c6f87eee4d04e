-- Sets rise, whatever their members are handed in as.
use Rattle.std.proofs.Common.{◌≡◌, refl, ◌∙◌, ap}
use Rattle.std.specs.Ordering.{ordering_reverse}
use Rattle.std.specs.declared.cmp.Ordering.{Ordering}
use Rattle.std.specs.declared.cmp.Ordering.TheVariants as ordering
use Rattle.std.specs.List.Sorted.{IsStrictlySortedBy}
use Rattle.std.specs.List.{AllByRecursion}
use Rattle.cedar_language.specs.Value.{Value, Values, no_values, a_value}
use Rattle.cedar_language.specs.Order.{rising, IsRising, put, placed, members, value_cmp}
use Rattle.cedar_language.specs.OrderLaws.{value_cmp_total}

-- v is below each of these
abbrev AllAbove : Value → Values → Type 0
AllAbove v vs = AllByRecursion (λ w. value_cmp v w ≡ ordering.Less) (members vs)

placed_above : (o : Ordering) (v u w : Value) (ws vs : Values) → value_cmp v u ≡ ordering.Less → (value_cmp v w ≡ ordering.Less) × AllAbove v ws → AllAbove v vs → AllAbove v (placed o u w ws vs)
placed_above ordering.Less v u w ws vs h a k = (h, a)
placed_above ordering.Equal v u w ws vs h a k = a
placed_above ordering.Greater v u w ws vs h a k = (a.0, k)

put_above : (v u : Value) (ws : Values) → value_cmp v u ≡ ordering.Less → AllAbove v ws → AllAbove v (put u ws)
put_above v u no_values h a = (h, tt)
put_above v u (a_value w ws) h a = placed_above (value_cmp u w) v u w ws (put u ws) h a (put_above v u ws h a.1)

above_from : (v w : Value) (ws : Values) → value_cmp v w ≡ ordering.Less → AllAbove w ws → AllAbove v ws
above_from v w no_values h a = tt
above_from v w (a_value x ws) h a = (value_cmp_total.trans v w x h a.0, above_from v w ws h a.1)

placed_rising : (o : Ordering) (v w : Value) (ws : Values) → value_cmp v w ≡ o → IsRising (a_value w ws) → IsRising (put v ws) → IsRising (placed o v w ws (put v ws))
unfolding IsStrictlySortedBy
placed_rising ordering.Less v w ws e h k = ((e, above_from v w ws e h.0), h)
placed_rising ordering.Equal v w ws e h k = h
placed_rising ordering.Greater v w ws e h k =
    let below : value_cmp w v ≡ ordering.Less = value_cmp_total.antisymm w v ∙ ap ordering_reverse e in
    (put_above w v ws below h.0, k)

pub put_rising : (v : Value) (ws : Values) → IsRising ws → IsRising (put v ws)
unfolding IsStrictlySortedBy
put_rising v no_values h = (tt, tt)
put_rising v (a_value w ws) h = placed_rising (value_cmp v w) v w ws refl h (put_rising v ws h.1)

pub rising_rises : (vs : Values) → IsRising (rising vs)
unfolding IsStrictlySortedBy
rising_rises no_values = tt
rising_rises (a_value v vs) = put_rising v (rising vs) (rising_rises vs)

put_first : (v : Value) (vs : Values) → AllAbove v vs → put v vs ≡ a_value v vs
put_first v no_values h = refl
put_first v (a_value w ws) h = rw h.0 refl

pub rising_same : (vs : Values) → IsRising vs → rising vs ≡ vs
unfolding IsStrictlySortedBy
rising_same no_values h = refl
rising_same (a_value v vs) h = rw (rising_same vs h.1) (put_first v vs h.0)
