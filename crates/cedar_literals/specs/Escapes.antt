-- How a uid is written: its type, and its id between quotes with escapes.
use Rattle.std.specs.Prelude.{ℕ, ◌==◌, ◌||◌, nat_lt, ◌++◌, Bool, if◌then◌else◌, false, codes, encode_utf8}
use Rattle.std.specs.List.{flat_map}
use Rattle.std.specs.Fmt.{digits}
use Rattle.std.specs.Str.{chars}
use Rattle.cedar_language.specs.Uid.{Text, Uid}
use Rattle.cedar_names.specs.Names.{name_text}

-- ASCII's control characters
abbrev pub is_control : ℕ → Bool
is_control c = nat_lt c 32 || c == 127

-- `\u{..}`
abbrev pub unicode_escape : ℕ → Text
unicode_escape c = codes "\\u{" ++ digits 16 false c ++ codes "}"

-- a character as it stands between quotes
abbrev pub escaped_char : ℕ → Text
escaped_char c =
    if c == 0 then codes "\\0"
    else if c == 9 then codes "\\t"
    else if c == 10 then codes "\\n"
    else if c == 13 then codes "\\r"
    else if c == 34 then codes "\\\""
    else if c == 39 then codes "\\'"
    else if c == 92 then codes "\\\\"
    else if is_control c then unicode_escape c
    else encode_utf8 c

abbrev pub escaped : Text → Text
escaped s = flat_map escaped_char (chars s)

-- `A::B::"id"`
abbrev pub uid_text : Uid → Text
uid_text u = name_text u.type_name ++ codes "::\"" ++ escaped u.id ++ codes "\""
