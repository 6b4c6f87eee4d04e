-- The functions of the standard extension types by their names: how they are called, of which types their arguments and answers
-- are, and what they answer. (Cedar language reference, "Extension types".)
use Rattle.std.specs.Prelude.{List, [], ◌∷◌, ◌++◌, map, length, codes, Bool, true, false, Option, Some, None}
use Rattle.cedar_language.specs.Uid.{Text}
use Rattle.cedar_language.specs.Tree.{ValueType, BooleanType, LongType, StringType, ExtensionType}
use Rattle.cedar_grammar.specs.Functions.{CallStyle, as_function, as_method, NamedFunction, Functions, the_unknown, unknown_function}
use Rattle.cedar_extensions.specs.Answering.{FunctionAnswers}
use Rattle.cedar_extensions.specs.Functions.{named_function, argument_types, returned_type, value_type_in, is_unknown}
use Rattle.cedar_extensions.specs.declared.functions.ExtensionFunction.{ExtensionFunction}
use Rattle.cedar_extension_types.specs.Types.{decimal_type, datetime_type, duration_type, ip_type}
use Rattle.cedar_extension_types.specs.Standard.{given_by}
use Rattle.cedar_extension_types.specs.declared.functions.StandardFunction.{StandardFunction}
use Rattle.cedar_extension_types.specs.declared.functions.StandardFunction.TheVariants.{Decimal, LessThan, LessThanOrEqual, GreaterThan}
use Rattle.cedar_extension_types.specs.declared.functions.StandardFunction.TheVariants.{GreaterThanOrEqual, Ip, IsIpv4, IsIpv6, IsLoopback}
use Rattle.cedar_extension_types.specs.declared.functions.StandardFunction.TheVariants.{IsMulticast, IsInRange, Datetime, Offset}
use Rattle.cedar_extension_types.specs.declared.functions.StandardFunction.TheVariants.{DurationSince, ToDate, ToTime, Duration}
use Rattle.cedar_extension_types.specs.declared.functions.StandardFunction.TheVariants.{ToMilliseconds, ToSeconds, ToMinutes, ToHours, ToDays}

-- all that a function of a table states: its name, how it is called and what it answers, the types of its arguments and of its
-- answers, and whether it is the built-in one that names unknowns
pub record StatedFunction : Type 0 where
  pub function : NamedFunction
  pub arguments : List ValueType
  pub answer : Option ValueType
  pub names_unknown : Bool

abbrev pub stated : {F : Type 0} → (F → FunctionAnswers) → ExtensionFunction F → StatedFunction
stated answers f = record {
  function = named_function answers f;
  arguments = argument_types f;
  answer = value_type_in (returned_type f);
  names_unknown = is_unknown f;
}

-- ---- the functions of the standard types

abbrev pub name_of : StandardFunction → Text
name_of Decimal = codes "decimal"
name_of LessThan = codes "lessThan"
name_of LessThanOrEqual = codes "lessThanOrEqual"
name_of GreaterThan = codes "greaterThan"
name_of GreaterThanOrEqual = codes "greaterThanOrEqual"
name_of Ip = codes "ip"
name_of IsIpv4 = codes "isIpv4"
name_of IsIpv6 = codes "isIpv6"
name_of IsLoopback = codes "isLoopback"
name_of IsMulticast = codes "isMulticast"
name_of IsInRange = codes "isInRange"
name_of Datetime = codes "datetime"
name_of Offset = codes "offset"
name_of DurationSince = codes "durationSince"
name_of ToDate = codes "toDate"
name_of ToTime = codes "toTime"
name_of Duration = codes "duration"
name_of ToMilliseconds = codes "toMilliseconds"
name_of ToSeconds = codes "toSeconds"
name_of ToMinutes = codes "toMinutes"
name_of ToHours = codes "toHours"
name_of ToDays = codes "toDays"

-- under its name, called so, of arguments and with answers of these types
abbrev pub called : CallStyle → List ValueType → ValueType → StandardFunction → StatedFunction
called style arguments answer f = record {
  function = record { name = name_of f ∷ []; style = style; function = record { takes = Some (length arguments); answer = given_by f } };
  arguments = arguments;
  answer = Some answer;
  names_unknown = false;
}

abbrev pub a_decimal : ValueType
a_decimal = ExtensionType decimal_type

abbrev pub a_range : ValueType
a_range = ExtensionType ip_type

abbrev pub an_instant : ValueType
an_instant = ExtensionType datetime_type

abbrev pub a_duration : ValueType
a_duration = ExtensionType duration_type

abbrev pub standard_function : StandardFunction → StatedFunction
standard_function Decimal = called as_function (StringType ∷ []) a_decimal Decimal
standard_function LessThan = called as_method (a_decimal ∷ a_decimal ∷ []) BooleanType LessThan
standard_function LessThanOrEqual = called as_method (a_decimal ∷ a_decimal ∷ []) BooleanType LessThanOrEqual
standard_function GreaterThan = called as_method (a_decimal ∷ a_decimal ∷ []) BooleanType GreaterThan
standard_function GreaterThanOrEqual = called as_method (a_decimal ∷ a_decimal ∷ []) BooleanType GreaterThanOrEqual
standard_function Ip = called as_function (StringType ∷ []) a_range Ip
standard_function IsIpv4 = called as_method (a_range ∷ []) BooleanType IsIpv4
standard_function IsIpv6 = called as_method (a_range ∷ []) BooleanType IsIpv6
standard_function IsLoopback = called as_method (a_range ∷ []) BooleanType IsLoopback
standard_function IsMulticast = called as_method (a_range ∷ []) BooleanType IsMulticast
standard_function IsInRange = called as_method (a_range ∷ a_range ∷ []) BooleanType IsInRange
standard_function Datetime = called as_function (StringType ∷ []) an_instant Datetime
standard_function Offset = called as_method (an_instant ∷ a_duration ∷ []) an_instant Offset
standard_function DurationSince = called as_method (an_instant ∷ an_instant ∷ []) a_duration DurationSince
standard_function ToDate = called as_method (an_instant ∷ []) an_instant ToDate
standard_function ToTime = called as_method (an_instant ∷ []) a_duration ToTime
standard_function Duration = called as_function (StringType ∷ []) a_duration Duration
standard_function ToMilliseconds = called as_method (a_duration ∷ []) LongType ToMilliseconds
standard_function ToSeconds = called as_method (a_duration ∷ []) LongType ToSeconds
standard_function ToMinutes = called as_method (a_duration ∷ []) LongType ToMinutes
standard_function ToHours = called as_method (a_duration ∷ []) LongType ToHours
standard_function ToDays = called as_method (a_duration ∷ []) LongType ToDays

-- ---- the functions of each extension

abbrev pub decimal_functions : List StandardFunction
decimal_functions = Decimal ∷ LessThan ∷ LessThanOrEqual ∷ GreaterThan ∷ GreaterThanOrEqual ∷ []

abbrev pub ip_functions : List StandardFunction
ip_functions = Ip ∷ IsIpv4 ∷ IsIpv6 ∷ IsLoopback ∷ IsMulticast ∷ IsInRange ∷ []

abbrev pub datetime_functions : List StandardFunction
datetime_functions =
    Datetime ∷ Duration ∷ Offset ∷ DurationSince ∷ ToDate ∷ ToTime ∷ ToMilliseconds ∷ ToSeconds ∷ ToMinutes ∷ ToHours ∷ ToDays ∷ []

abbrev pub standard_functions : List StandardFunction
standard_functions = decimal_functions ++ (ip_functions ++ datetime_functions)

-- the built-in function that names unknowns
abbrev pub stated_unknown : StatedFunction
stated_unknown = record {
  function = record { name = the_unknown; style = as_function; function = unknown_function };
  arguments = StringType ∷ [];
  answer = None;
  names_unknown = true;
}

-- the table of the standard types and of `unknown`, as the definitions have tables
abbrev pub standard_table : Functions
standard_table = record { table = map (λ s. s.function) (map standard_function standard_functions ++ stated_unknown ∷ []); has_unknown = true }
