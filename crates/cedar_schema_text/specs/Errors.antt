-- What an error says of a text.
use Rattle.std.specs.Prelude.{◌≡◌, ℕ, ◌<◌, ◌≤◌, List, Some, None, ⊤}
use Rattle.std.specs.Str.{chars}
use Rattle.cedar_language.specs.Uid.{Text}
use Rattle.cedar_schema_grammar.specs.Tokens.{Token, tokens_of}
use Rattle.cedar_schema_grammar.specs.Reading.{said}
use Rattle.cedar_schema_text.specs.Nesting.{nesting}
use Rattle.cedar_schema_text.specs.declared.syntax_error.SchemaSyntaxError.{SchemaSyntaxError}
use Rattle.cedar_schema_text.specs.declared.syntax_error.SchemaSyntaxError.TheVariants as error

-- the brackets of the text's tokens nest at most so deep
abbrev pub NestsWithin : ℕ → Text → Type 0
NestsWithin limit text = (ts : List Token) × (tokens_of (chars text) ≡ Some ts) × (nesting ts ≤ limit)

abbrev pub NestsBeyond : ℕ → Text → Type 0
NestsBeyond limit text = (ts : List Token) × (tokens_of (chars text) ≡ Some ts) × (limit < nesting ts)

-- of want of memory nothing is said
abbrev pub Refuses : ℕ → Text → SchemaSyntaxError → Type 0
Refuses limit text (error.Syntax fault place) = said text ≡ None
Refuses limit text (error.Depth place) = NestsBeyond limit text
Refuses limit text error.Memory = ⊤
