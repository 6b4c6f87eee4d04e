-- What the functions of the standard extension types answer. (Cedar language reference, "Extension types".)
use Rattle.std.specs.Prelude.{ℕ, ℤ, int_div, Bool, true, false, List, Option, Some, option_map}
use Rattle.std.specs.Ordering.{int_cmp}
use Rattle.std.specs.declared.cmp.Ordering.{Ordering}
use Rattle.cedar_language.specs.Value.{Value, Values}
use Rattle.cedar_scalars.specs.Instants.{offset_by, time_between, time_of_day, midnight_of}
use Rattle.cedar_scalars.specs.Ranges.{key_of, range_of, is_in_range}
use Rattle.cedar_scalars.specs.declared.ip_ranges.IpRange.{IpRange}
use Rattle.cedar_extension_types.specs.Types.{decimal_type, datetime_type, duration_type, ip_type, typed, numbered, boolean_value, long_value}
use Rattle.cedar_extension_types.specs.Types.{decimal_in, datetime_in, duration_in, range_in, onward, alone, text_alone, of_two}

abbrev pub decimal_value : ℤ → Value
decimal_value = numbered decimal_type false

abbrev pub datetime_value : ℤ → Value
datetime_value = numbered datetime_type true

abbrev pub duration_value : ℤ → Value
duration_value = numbered duration_type true

-- the value of a text
abbrev pub made : (ℤ → Value) → (List ℕ → Option ℤ) → Values → Option Value
made value parsed vs = option_map value (onward parsed (text_alone vs))

-- how two decimals stand to each other
abbrev pub order_of : Values → Option Ordering
order_of = of_two decimal_in decimal_in (λ m n. Some (int_cmp m n))

abbrev pub compared : (Ordering → Bool) → Values → Option Value
compared holds vs = option_map (λ o. boolean_value (holds o)) (order_of vs)

-- ---- instants and durations

abbrev pub offset : Values → Option Value
offset vs = option_map datetime_value (of_two datetime_in duration_in offset_by vs)

abbrev pub duration_since : Values → Option Value
duration_since vs = option_map duration_value (of_two datetime_in datetime_in time_between vs)

abbrev pub to_date : Values → Option Value
to_date vs = option_map datetime_value (onward midnight_of (onward datetime_in (alone vs)))

abbrev pub to_time : Values → Option Value
to_time vs = option_map (λ t. duration_value (time_of_day t)) (onward datetime_in (alone vs))

-- how many whole units of so many milliseconds a duration has
abbrev pub whole : ℤ → Values → Option Value
whole unit vs = option_map (λ d. long_value (int_div d unit)) (onward duration_in (alone vs))

-- ---- ranges of IP addresses

abbrev pub range_value : IpRange → Value
range_value r = typed ip_type false (key_of r)

abbrev pub made_range : Values → Option Value
made_range vs = option_map range_value (onward range_of (text_alone vs))

-- whether it holds of the range that the one argument is
abbrev pub asked : (IpRange → Bool) → Values → Option Value
asked holds vs = option_map (λ r. boolean_value (holds r)) (onward range_in (alone vs))

abbrev pub in_range : Values → Option Value
in_range vs = option_map boolean_value (of_two range_in range_in (λ a b. Some (is_in_range a b)) vs)
