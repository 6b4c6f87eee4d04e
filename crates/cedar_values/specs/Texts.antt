-- Parts of the texts of values.
use Rattle.std.specs.Prelude.{◌++◌, [], Bool, ◌&&◌, not, if◌then◌else◌, codes}
use Rattle.cedar_language.specs.Uid.{Text}
use Rattle.cedar_literals.specs.Escapes.{escaped}
use Rattle.cedar_names.specs.Identifiers.{is_id, is_reserved}

-- a key before its value: an identifier that is no keyword and not reserved stands without quotes
abbrev pub key_text : Text → Text
key_text k = if is_id k && not (is_reserved k) then k ++ codes ": " else codes "\"" ++ escaped k ++ codes "\": "

-- what stands before an element
abbrev pub separator : Bool → Text
separator is_first = if is_first then [] else codes ", "
