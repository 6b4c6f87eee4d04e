-- What is true of the functions of the standard extension types.
use Rattle.std.specs.Prelude.{◌≡◌, ⊤, ℤ, pos, [], ◌∷◌, true, Some, codes}
use Rattle.std.specs.Ordering.{int_cmp, is_lt, is_le}
use Rattle.cedar_language.specs.Uid.{Text}
use Rattle.cedar_language.specs.Tree.{String}
use Rattle.cedar_language.specs.Operators.{truth, less_of, less_eq_of}
use Rattle.cedar_language.specs.Value.{Value, Plain, SetOf, RecordOf, ExtensionOf, Values, no_values, a_value, TypeError, Fails}
use Rattle.cedar_grammar.specs.Functions.{function_of, the_unknown, unknown_function}
use Rattle.cedar_scalars.specs.Longs.{is_long}
use Rattle.cedar_scalars.specs.Decimals.{decimal_text}
use Rattle.cedar_scalars.specs.Durations.{duration_text}
use Rattle.cedar_scalars.specs.Ranges.{range_text, IsProperRange}
use Rattle.cedar_scalars.specs.declared.ip_ranges.IpRange.{IpRange}
use Rattle.cedar_extension_types.specs.Types.{decimal_in, datetime_in, duration_in, range_in}
use Rattle.cedar_extension_types.specs.Answers.{decimal_value, datetime_value, duration_value, range_value}
use Rattle.cedar_extension_types.specs.Standard.{given_by}
use Rattle.cedar_extension_types.specs.Tables.{name_of, standard_function, standard_table}
use Rattle.cedar_extension_types.specs.declared.functions.StandardFunction.{StandardFunction}
use Rattle.cedar_extension_types.specs.declared.functions.StandardFunction.TheVariants.{Decimal, Ip, Datetime, Offset, Duration}

-- a literal or an extension value
abbrev pub IsFlat : Value → Type 0
IsFlat (Plain l) = ⊤
IsFlat (SetOf vs) = ⊥
IsFlat (RecordOf ks vs) = ⊥
IsFlat (ExtensionOf e) = ⊤

abbrev pub AnswersAreFlat : Type 0
AnswersAreFlat = (f : StandardFunction) (vs : Values) (v : Value) → given_by f vs ≡ Some v → IsFlat v

-- each standard function is what its name calls
abbrev pub NamesCallTheirFunctions : Type 0
NamesCallTheirFunctions = (f : StandardFunction) → function_of standard_table (name_of f ∷ []) ≡ Some (standard_function f).function.function

abbrev pub UnknownIsCalled : Type 0
UnknownIsCalled = function_of standard_table the_unknown ≡ Some unknown_function

-- ---- values

-- what is made is read: so values are the same exactly where the numbers are
abbrev pub NumbersAreRead : Type 0
NumbersAreRead =
    (n : ℤ) → is_long n ≡ true →
    (decimal_in (decimal_value n) ≡ Some n) × ((datetime_in (datetime_value n) ≡ Some n) × (duration_in (duration_value n) ≡ Some n))

abbrev pub RangesAreRead : Type 0
RangesAreRead = (r : IpRange) → IsProperRange r → range_in (range_value r) ≡ Some r

abbrev pub two : Value → Value → Values
two v w = a_value v (a_value w no_values)

-- `<` and `<=` of instants are those of numbers, and so are those of durations
abbrev pub AreOrdered : (ℤ → Value) → Type 0
AreOrdered value =
    (m n : ℤ) → is_long m ≡ true → is_long n ≡ true →
    (less_of (two (value m) (value n)) ≡ truth (is_lt (int_cmp m n))) × (less_eq_of (two (value m) (value n)) ≡ truth (is_le (int_cmp m n)))

-- decimals have no order
abbrev pub DecimalsHaveNoOrder : Type 0
DecimalsHaveNoOrder = (m n : ℤ) → less_of (two (decimal_value m) (decimal_value n)) ≡ Fails TypeError

-- ---- how values are written

abbrev pub one_text : Text → Values
one_text t = a_value (Plain (String t)) no_values

-- the function of a type answers the value to the text that is written of it, and an instant is its offset from 1970
abbrev pub WrittenNumbersAreAnswered : Type 0
WrittenNumbersAreAnswered =
    (n : ℤ) → is_long n ≡ true →
    (given_by Decimal (one_text (decimal_text n)) ≡ Some (decimal_value n))
    × ((given_by Duration (one_text (duration_text n)) ≡ Some (duration_value n))
    × (given_by Offset (two (datetime_value (pos 0)) (duration_value n)) ≡ Some (datetime_value n)))

abbrev pub WrittenRangesAreAnswered : Type 0
WrittenRangesAreAnswered = (r : IpRange) → IsProperRange r → given_by Ip (one_text (range_text r)) ≡ Some (range_value r)

abbrev pub EpochIsAnswered : Type 0
EpochIsAnswered = given_by Datetime (one_text (codes "1970-01-01")) ≡ Some (datetime_value (pos 0))
