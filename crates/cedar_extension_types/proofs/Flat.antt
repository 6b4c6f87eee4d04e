-- Answers are literals or extension values.
use Rattle.std.proofs.Common.{◌≡◌, ℤ, pos, int_div, not, Option, Some, None, option_map, subst}
use Rattle.std.specs.Net.Addr.{is_ipv4}
use Rattle.std.specs.Ordering.{is_lt, is_le, is_gt, is_ge}
use Rattle.std.specs.declared.cmp.Ordering.{Ordering}
use Rattle.cedar_language.specs.Value.{Value, Values}
use Rattle.cedar_scalars.specs.Instants.{time_of_day}
use Rattle.cedar_scalars.specs.Ranges.{is_loopback, is_multicast}
use Rattle.cedar_scalars.specs.declared.ip_ranges.IpRange.{IpRange}
use Rattle.cedar_extension_types.specs.Types.{boolean_value, long_value}
use Rattle.cedar_extension_types.specs.Answers.{decimal_value, datetime_value, duration_value, range_value}
use Rattle.cedar_extension_types.specs.Laws.{IsFlat}
use Rattle.cedar_extension_types.specs.Standard.{given_by}
use Rattle.cedar_extension_types.specs.declared.functions.StandardFunction.{StandardFunction}
use Rattle.cedar_extension_types.specs.declared.functions.StandardFunction.TheVariants.{Decimal, LessThan, LessThanOrEqual, GreaterThan}
use Rattle.cedar_extension_types.specs.declared.functions.StandardFunction.TheVariants.{GreaterThanOrEqual, Ip, IsIpv4, IsIpv6, IsLoopback}
use Rattle.cedar_extension_types.specs.declared.functions.StandardFunction.TheVariants.{IsMulticast, IsInRange, Datetime, Offset}
use Rattle.cedar_extension_types.specs.declared.functions.StandardFunction.TheVariants.{DurationSince, ToDate, ToTime, Duration}
use Rattle.cedar_extension_types.specs.declared.functions.StandardFunction.TheVariants.{ToMilliseconds, ToSeconds, ToMinutes, ToHours, ToDays}

-- what is made of what is there is flat where each value made is
mapped : {A : Type 0} (value : A → Value) → ((a : A) → IsFlat (value a)) → (o : Option A) (v : Value) → option_map value o ≡ Some v → IsFlat v
mapped value flat (Some a) v is = let e : value a ≡ v = cc in subst IsFlat e (flat a)
mapped value flat None v is = cc

pub answers_are_flat : (f : StandardFunction) (vs : Values) (v : Value) → given_by f vs ≡ Some v → IsFlat v
answers_are_flat Decimal vs v is = mapped decimal_value (λ n. tt) _ v is
answers_are_flat LessThan vs v is = mapped (λ (o : Ordering). boolean_value (is_lt o)) (λ o. tt) _ v is
answers_are_flat LessThanOrEqual vs v is = mapped (λ (o : Ordering). boolean_value (is_le o)) (λ o. tt) _ v is
answers_are_flat GreaterThan vs v is = mapped (λ (o : Ordering). boolean_value (is_gt o)) (λ o. tt) _ v is
answers_are_flat GreaterThanOrEqual vs v is = mapped (λ (o : Ordering). boolean_value (is_ge o)) (λ o. tt) _ v is
answers_are_flat Ip vs v is = mapped range_value (λ r. tt) _ v is
answers_are_flat IsIpv4 vs v is = mapped (λ (r : IpRange). boolean_value (is_ipv4 r.address)) (λ r. tt) _ v is
answers_are_flat IsIpv6 vs v is = mapped (λ (r : IpRange). boolean_value (not (is_ipv4 r.address))) (λ r. tt) _ v is
answers_are_flat IsLoopback vs v is = mapped (λ (r : IpRange). boolean_value (is_loopback r)) (λ r. tt) _ v is
answers_are_flat IsMulticast vs v is = mapped (λ (r : IpRange). boolean_value (is_multicast r)) (λ r. tt) _ v is
answers_are_flat IsInRange vs v is = mapped boolean_value (λ b. tt) _ v is
answers_are_flat Datetime vs v is = mapped datetime_value (λ n. tt) _ v is
answers_are_flat Offset vs v is = mapped datetime_value (λ n. tt) _ v is
answers_are_flat DurationSince vs v is = mapped duration_value (λ n. tt) _ v is
answers_are_flat ToDate vs v is = mapped datetime_value (λ n. tt) _ v is
answers_are_flat ToTime vs v is = mapped (λ (t : ℤ). duration_value (time_of_day t)) (λ t. tt) _ v is
answers_are_flat Duration vs v is = mapped duration_value (λ n. tt) _ v is
answers_are_flat ToMilliseconds vs v is = mapped long_value (λ n. tt) _ v is
answers_are_flat ToSeconds vs v is = mapped (λ (d : ℤ). long_value (int_div d (pos 1000))) (λ d. tt) _ v is
answers_are_flat ToMinutes vs v is = mapped (λ (d : ℤ). long_value (int_div d (pos 60000))) (λ d. tt) _ v is
answers_are_flat ToHours vs v is = mapped (λ (d : ℤ). long_value (int_div d (pos 3600000))) (λ d. tt) _ v is
answers_are_flat ToDays vs v is = mapped (λ (d : ℤ). long_value (int_div d (pos 86400000))) (λ d. tt) _ v is
