-- What is made is read, and its order is that of numbers.
use Rattle.std.proofs.Common.{◌≡◌, ℤ, true, Some, refl, ap}
use Rattle.std.specs.Ordering.{is_lt, is_le}
use Rattle.cedar_language.specs.Operators.{truth, less_of}
use Rattle.cedar_language.specs.Value.{TypeError, Fails}
use Rattle.cedar_scalars.specs.Longs.{is_long}
use Rattle.cedar_scalars.specs.Ranges.{IsProperRange}
use Rattle.cedar_scalars.specs.declared.ip_ranges.IpRange.{IpRange}
use Rattle.cedar_scalars.proofs.KeyLaws.{keys_read}
use Rattle.cedar_scalars.proofs.KeyOrder.{keys_go}
use Rattle.cedar_scalars.proofs.RangeKeysRead.{range_key_read}
use Rattle.cedar_extension_types.specs.Types.{decimal_in, datetime_in, duration_in, range_in}
use Rattle.cedar_extension_types.specs.Answers.{decimal_value, datetime_value, duration_value, range_value}
use Rattle.cedar_extension_types.specs.Laws.{AreOrdered, two}

pub numbers_read : (n : ℤ) → is_long n ≡ true → (decimal_in (decimal_value n) ≡ Some n) × ((datetime_in (datetime_value n) ≡ Some n) × (duration_in (duration_value n) ≡ Some n))
numbers_read n long = (keys_read n long, (keys_read n long, keys_read n long))

pub ranges_read : (r : IpRange) → IsProperRange r → range_in (range_value r) ≡ Some r
ranges_read r h = range_key_read r h

pub instants_ordered : AreOrdered datetime_value
instants_ordered m n p q = (ap (λ o. truth (is_lt o)) (keys_go m n p q), ap (λ o. truth (is_le o)) (keys_go m n p q))

pub durations_ordered : AreOrdered duration_value
durations_ordered m n p q = (ap (λ o. truth (is_lt o)) (keys_go m n p q), ap (λ o. truth (is_le o)) (keys_go m n p q))

pub decimals_unordered : (m n : ℤ) → less_of (two (decimal_value m) (decimal_value n)) ≡ Fails TypeError
decimals_unordered m n = refl
