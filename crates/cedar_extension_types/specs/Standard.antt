-- What each function of the standard extension types answers, and those of a caller's beside them.
use Rattle.std.specs.Prelude.{◌≡◌, pos, int_div, true, false, not, Option, Some, option_map}
use Rattle.std.specs.Ordering.{is_lt, is_le, is_gt, is_ge}
use Rattle.cedar_language.specs.Value.{Value, Values}
use Rattle.cedar_extensions.specs.Answering.{FunctionAnswers, IsBuilt}
use Rattle.cedar_scalars.specs.Decimals.{decimal_of}
use Rattle.cedar_scalars.specs.Durations.{duration_of}
use Rattle.cedar_scalars.specs.Instants.{instant_of, time_of_day}
use Rattle.cedar_scalars.specs.Ranges.{is_in_range, is_loopback, is_multicast}
use Rattle.std.specs.Net.Addr.{is_ipv4}
use Rattle.cedar_extension_types.specs.Types.{decimal_type, datetime_type, duration_type, long_value, duration_in, range_in, onward, alone, text_alone, of_two}
use Rattle.cedar_extension_types.specs.Answers.{decimal_value, datetime_value, duration_value, made, compared, order_of}
use Rattle.cedar_extension_types.specs.Answers.{offset, duration_since, to_date, to_time, whole, made_range, asked, in_range}
use Rattle.cedar_extension_types.specs.Built.{numbers_built, booleans_built, longs_built, ranges_built}
use Rattle.cedar_extension_types.specs.declared.functions.StandardFunction.{StandardFunction}
use Rattle.cedar_extension_types.specs.declared.functions.StandardFunction.TheVariants.{Decimal, LessThan, LessThanOrEqual, GreaterThan}
use Rattle.cedar_extension_types.specs.declared.functions.StandardFunction.TheVariants.{GreaterThanOrEqual, Ip, IsIpv4, IsIpv6, IsLoopback}
use Rattle.cedar_extension_types.specs.declared.functions.StandardFunction.TheVariants.{IsMulticast, IsInRange, Datetime, Offset}
use Rattle.cedar_extension_types.specs.declared.functions.StandardFunction.TheVariants.{DurationSince, ToDate, ToTime, Duration}
use Rattle.cedar_extension_types.specs.declared.functions.StandardFunction.TheVariants.{ToMilliseconds, ToSeconds, ToMinutes, ToHours, ToDays}
use Rattle.cedar_extension_types.specs.declared.functions.TypeFunction.{TypeFunction}
use Rattle.cedar_extension_types.specs.declared.functions.TypeFunction.TheVariants.{Standard, Own}

abbrev pub given_by : StandardFunction → Values → Option Value
given_by Decimal vs = made decimal_value decimal_of vs
given_by LessThan vs = compared is_lt vs
given_by LessThanOrEqual vs = compared is_le vs
given_by GreaterThan vs = compared is_gt vs
given_by GreaterThanOrEqual vs = compared is_ge vs
given_by Ip vs = made_range vs
given_by IsIpv4 vs = asked (λ r. is_ipv4 r.address) vs
given_by IsIpv6 vs = asked (λ r. not (is_ipv4 r.address)) vs
given_by IsLoopback vs = asked is_loopback vs
given_by IsMulticast vs = asked is_multicast vs
given_by IsInRange vs = in_range vs
given_by Datetime vs = made datetime_value instant_of vs
given_by Offset vs = offset vs
given_by DurationSince vs = duration_since vs
given_by ToDate vs = to_date vs
given_by ToTime vs = to_time vs
given_by Duration vs = made duration_value duration_of vs
given_by ToMilliseconds vs = option_map long_value (onward duration_in (alone vs))
given_by ToSeconds vs = whole (pos 1000) vs
given_by ToMinutes vs = whole (pos 60000) vs
given_by ToHours vs = whole (pos 3600000) vs
given_by ToDays vs = whole (pos 86400000) vs

pub standard_built : (f : StandardFunction) (vs : Values) (v : Value) → given_by f vs ≡ Some v → IsBuilt v
standard_built Decimal vs v is = numbers_built decimal_type false (λ n. n) _ v is
standard_built LessThan vs v is = booleans_built is_lt (order_of vs) v is
standard_built LessThanOrEqual vs v is = booleans_built is_le (order_of vs) v is
standard_built GreaterThan vs v is = booleans_built is_gt (order_of vs) v is
standard_built GreaterThanOrEqual vs v is = booleans_built is_ge (order_of vs) v is
standard_built Ip vs v is = ranges_built (text_alone vs) v is
standard_built IsIpv4 vs v is = booleans_built (λ r. is_ipv4 r.address) (onward range_in (alone vs)) v is
standard_built IsIpv6 vs v is = booleans_built (λ r. not (is_ipv4 r.address)) (onward range_in (alone vs)) v is
standard_built IsLoopback vs v is = booleans_built is_loopback (onward range_in (alone vs)) v is
standard_built IsMulticast vs v is = booleans_built is_multicast (onward range_in (alone vs)) v is
standard_built IsInRange vs v is = booleans_built (λ b. b) (of_two range_in range_in (λ a b. Some (is_in_range a b)) vs) v is
standard_built Datetime vs v is = numbers_built datetime_type true (λ n. n) _ v is
standard_built Offset vs v is = numbers_built datetime_type true (λ n. n) _ v is
standard_built DurationSince vs v is = numbers_built duration_type true (λ n. n) _ v is
standard_built ToDate vs v is = numbers_built datetime_type true (λ n. n) _ v is
standard_built ToTime vs v is = numbers_built duration_type true time_of_day _ v is
standard_built Duration vs v is = numbers_built duration_type true (λ n. n) _ v is
standard_built ToMilliseconds vs v is = longs_built (λ d. d) _ v is
standard_built ToSeconds vs v is = longs_built (λ d. int_div d (pos 1000)) _ v is
standard_built ToMinutes vs v is = longs_built (λ d. int_div d (pos 60000)) _ v is
standard_built ToHours vs v is = longs_built (λ d. int_div d (pos 3600000)) _ v is
standard_built ToDays vs v is = longs_built (λ d. int_div d (pos 86400000)) _ v is

abbrev pub standard_answers : StandardFunction → FunctionAnswers
standard_answers f = record { given = given_by f; built = standard_built f }

-- those of a table that has a caller's functions too
abbrev pub answers_beside : {F : Type 0} → (F → FunctionAnswers) → TypeFunction F → FunctionAnswers
answers_beside own (Standard f) = standard_answers f
answers_beside own (Own f) = own f
