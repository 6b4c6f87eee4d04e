-- What is written of a value is answered by the value.
use Rattle.std.proofs.Common.{◌≡◌, ℤ, pos, ◌+ℤ◌, true, Some, option_map, codes, refl, ap, ◌∙◌, arith}
use Rattle.std.proofs.lemmas.Int.{ints}
use Rattle.cedar_scalars.specs.Longs.{is_long, long_of}
use Rattle.cedar_scalars.specs.Decimals.{decimal_text}
use Rattle.cedar_scalars.specs.Durations.{duration_text}
use Rattle.cedar_scalars.specs.Instants.{offset_by}
use Rattle.cedar_scalars.specs.Ranges.{range_text, IsProperRange}
use Rattle.cedar_scalars.specs.declared.ip_ranges.IpRange.{IpRange}
use Rattle.cedar_scalars.proofs.KeyLaws.{keys_read}
use Rattle.cedar_scalars.proofs.Longs.{long_is}
use Rattle.cedar_scalars.proofs.Printing.{decimal_back, duration_back}
use Rattle.cedar_scalars.proofs.RangeTexts.{range_back}
use Rattle.cedar_extension_types.specs.Types.{both, duration_in}
use Rattle.cedar_extension_types.specs.Answers.{decimal_value, datetime_value, duration_value, range_value}
use Rattle.cedar_extension_types.specs.Laws.{one_text, two}
use Rattle.cedar_extension_types.specs.Standard.{given_by}
use Rattle.cedar_extension_types.specs.declared.functions.StandardFunction.TheVariants.{Decimal, Ip, Datetime, Offset, Duration}

from_1970 : (n : ℤ) → is_long n ≡ true → offset_by (pos 0) n ≡ Some n
from_1970 n long = let sum : pos 0 +ℤ n ≡ n = omega (arith, ints) in ap long_of sum ∙ long_is n long

pub numbers_answered : (n : ℤ) → is_long n ≡ true →
    (given_by Decimal (one_text (decimal_text n)) ≡ Some (decimal_value n))
    × ((given_by Duration (one_text (duration_text n)) ≡ Some (duration_value n))
    × (given_by Offset (two (datetime_value (pos 0)) (duration_value n)) ≡ Some (datetime_value n)))
numbers_answered n long = (
  ap (option_map decimal_value) (decimal_back n long),
  (
    ap (option_map duration_value) (duration_back n long),
    ap (λ o. option_map datetime_value (both offset_by o (duration_in (duration_value n)))) (keys_read (pos 0) refl)
        ∙ ap (λ o. option_map datetime_value (both offset_by (Some (pos 0)) o)) (keys_read n long)
        ∙ ap (option_map datetime_value) (from_1970 n long),
  ),
)

pub ranges_answered : (r : IpRange) → IsProperRange r → given_by Ip (one_text (range_text r)) ≡ Some (range_value r)
ranges_answered r h = ap (option_map range_value) (range_back r h)

pub epoch_answered : given_by Datetime (one_text (codes "1970-01-01")) ≡ Some (datetime_value (pos 0))
epoch_answered = refl
