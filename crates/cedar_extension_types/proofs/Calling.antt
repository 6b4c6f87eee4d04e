-- What names call in the table of the standard types.
use Rattle.std.proofs.Common.{◌≡◌, [], ◌∷◌, Some, refl}
use Rattle.cedar_grammar.specs.Functions.{function_of, the_unknown, unknown_function}
use Rattle.cedar_extension_types.specs.Tables.{name_of, standard_function, standard_table}
use Rattle.cedar_extension_types.specs.declared.functions.StandardFunction.{StandardFunction}
use Rattle.cedar_extension_types.specs.declared.functions.StandardFunction.TheVariants.{Decimal, LessThan, LessThanOrEqual, GreaterThan}
use Rattle.cedar_extension_types.specs.declared.functions.StandardFunction.TheVariants.{GreaterThanOrEqual, Ip, IsIpv4, IsIpv6, IsLoopback}
use Rattle.cedar_extension_types.specs.declared.functions.StandardFunction.TheVariants.{IsMulticast, IsInRange, Datetime, Offset}
use Rattle.cedar_extension_types.specs.declared.functions.StandardFunction.TheVariants.{DurationSince, ToDate, ToTime, Duration}
use Rattle.cedar_extension_types.specs.declared.functions.StandardFunction.TheVariants.{ToMilliseconds, ToSeconds, ToMinutes, ToHours, ToDays}

pub names_call : (f : StandardFunction) → function_of standard_table (name_of f ∷ []) ≡ Some (standard_function f).function.function
names_call Decimal = refl
names_call LessThan = refl
names_call LessThanOrEqual = refl
names_call GreaterThan = refl
names_call GreaterThanOrEqual = refl
names_call Ip = refl
names_call IsIpv4 = refl
names_call IsIpv6 = refl
names_call IsLoopback = refl
names_call IsMulticast = refl
names_call IsInRange = refl
names_call Datetime = refl
names_call Offset = refl
names_call DurationSince = refl
names_call ToDate = refl
names_call ToTime = refl
names_call Duration = refl
names_call ToMilliseconds = refl
names_call ToSeconds = refl
names_call ToMinutes = refl
names_call ToHours = refl
names_call ToDays = refl

pub unknown_called : function_of standard_table the_unknown ≡ Some unknown_function
unknown_called = refl
