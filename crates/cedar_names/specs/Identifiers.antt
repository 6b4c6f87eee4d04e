-- Which texts are identifiers. (Cedar language reference, "Policy grammar".)
use Rattle.std.specs.Prelude.{◌&&◌, not, List, [], ◌∷◌, Bool, false, codes, IsTrue}
use Rattle.std.specs.List.{list_any, list_all}
use Rattle.cedar_language.specs.Uid.{Text}
use Rattle.cedar_language.specs.Words.{begins_word, is_in_word}
use Rattle.cedar_language.specs.Order.{same_text}

-- an ASCII letter or `_`, then letters, digits or `_`
abbrev pub is_identifier : Text → Bool
is_identifier [] = false
is_identifier (c ∷ cs) = begins_word c && list_all is_in_word cs

-- the words of the grammar that can't stand as identifiers
abbrev pub keywords : List Text
keywords = codes "true" ∷ codes "false" ∷ codes "if" ∷ codes "then" ∷ codes "else" ∷ codes "in" ∷ codes "like" ∷ codes "has" ∷ codes "is" ∷ []

abbrev pub is_keyword : Text → Bool
is_keyword s = list_any (same_text s) keywords

-- the identifier that Cedar keeps for itself
abbrev pub reserved : Text
reserved = codes "__cedar"

abbrev pub is_reserved : Text → Bool
is_reserved s = same_text s reserved

-- any identifier, keywords included
abbrev pub IsAnyId : Text → Type 0
IsAnyId s = IsTrue (is_identifier s)

-- an identifier that is no keyword; it may be the reserved one
abbrev pub is_id : Text → Bool
is_id s = is_identifier s && not (is_keyword s)

abbrev pub IsId : Text → Type 0
IsId s = IsTrue (is_id s)

-- an identifier that is neither a keyword nor the reserved one
abbrev pub IsUnreservedId : Text → Type 0
IsUnreservedId s = IsId s × IsTrue (not (is_reserved s))
