-- Faults as JSON. (RFC 8259.)
use Rattle.std.specs.Prelude.{ℕ, Bool, nat_lt, ◌||◌, ◌==◌, ◌+◌, ◌-◌, ◌/◌, ◌%◌, if◌then◌else◌, List, [], ◌∷◌, ◌++◌, codes, Option, Some, None, string_bytes}
use Rattle.std.specs.Fmt.{decimal}
use Rattle.std.specs.List.{flat_map}
use Rattle.std.specs.Option.{option_map}
use Rattle.cedar_language.specs.Uid.{Text}
use Rattle.cedar_messages.specs.declared.fault.Fault.{Fault}
use Rattle.cedar_messages.specs.declared.places.Extent.{Extent}
use Rattle.cedar_messages.specs.Faults.{reach}

-- a digit of base 16
abbrev pub digit : ℕ → ℕ
digit n = if nat_lt n 10 then 48 + n else 97 + (n - 10)

-- a quote or a backslash
abbrev pub is_mark : ℕ → Bool
is_mark b = (b == 34) || (b == 92)

abbrev pub is_control : ℕ → Bool
is_control b = nat_lt b 32 || (b == 127)

-- a byte of a string
abbrev pub escape : ℕ → Text
escape b =
    if is_mark b then 92 ∷ b ∷ []
    else if is_control b then codes "\\u00" ++ digit (b / 16) ∷ digit (b % 16) ∷ []
    else b ∷ []

abbrev pub text_json : Text → Text
text_json text = codes "\"" ++ (flat_map escape text ++ codes "\"")

abbrev pub or_null : Option Text → Text
or_null None = codes "null"
or_null (Some text) = text_json text

-- from where to where it reaches, in four members, which begin an object
abbrev pub extent_json : Option Extent → Text
extent_json None = codes "{\"line\":null,\"column\":null,\"endLine\":null,\"endColumn\":null"
extent_json (Some x) =
    (codes "{\"line\":" ++ decimal x.start.line) ++ ((codes ",\"column\":" ++ decimal x.start.column)
    ++ ((codes ",\"endLine\":" ++ decimal x.end.line) ++ (codes ",\"endColumn\":" ++ decimal x.end.column)))

-- the parts of a fault
abbrev pub kind_in : Fault → Text
kind_in fault = fault.kind.now

abbrev pub message_in : Fault → Text
message_in fault = string_bytes fault.message

abbrev pub expected_in : Fault → Option Text
expected_in fault = option_map string_bytes fault.expected

abbrev pub help_in : Fault → Option Text
help_in fault = option_map string_bytes fault.help

-- the object of a fault
abbrev pub object : Fault → Text
object fault =
    extent_json (reach fault) ++ ((codes ",\"kind\":" ++ text_json (kind_in fault)) ++ ((codes ",\"message\":" ++ text_json (message_in fault))
    ++ ((codes ",\"expected\":" ++ or_null (expected_in fault)) ++ ((codes ",\"help\":" ++ or_null (help_in fault)) ++ codes "}"))))

abbrev pub further_json : List Fault → Text
further_json [] = []
further_json (fault ∷ faults) = (codes "," ++ object fault) ++ further_json faults

-- the objects of faults in a list
abbrev pub json_of : List Fault → Text
json_of [] = codes "[]"
json_of (fault ∷ faults) = codes "[" ++ (object fault ++ (further_json faults ++ codes "]"))
