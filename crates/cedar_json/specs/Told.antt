-- The words of an entity that stands in a string.
use Rattle.std.specs.Prelude.{◌≡◌, ◌<◌, List, length, Some, true}
use Rattle.cedar_language.specs.Uid.{Text}
use Rattle.cedar_grammar.specs.Token.{Word, Token, id_of}
use Rattle.cedar_world.specs.Bodies.{is_free_word}
use Rattle.cedar_json.specs.Questions.{longer, or_else, string_alone, path_in}

-- the identifier is this word
abbrev pub IsIdentifier : Text → Word → Type 0
IsIdentifier name w = (id_of w ≡ Some name) × (is_free_word name ≡ true)

-- an identifier and `::` stand before the other tokens
pub record GoesOn (name : Text) (all others : List Token) : Type 0 where
  pub path : path_in all ≡ longer (Some name) (or_else (string_alone others) (path_in others))
  pub free : is_free_word name ≡ true
  pub fewer : length others < length all
