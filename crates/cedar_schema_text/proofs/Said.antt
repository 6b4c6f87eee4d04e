-- What a text says, by its tokens.
use Rattle.std.proofs.Common.{◌≡◌, ℕ, suc, List, length, map, Option, Some, None, ap, ◌∙◌}
use Rattle.std.proofs.lemmas.List.{length-map}
use Rattle.std.specs.Str.{chars}
use Rattle.cedar_language.specs.Uid.{Text}
use Rattle.cedar_grammar.specs.Steps.{◌>>=◌}
use Rattle.cedar_schema_grammar.specs.Tokens.{tokens_of}
use Rattle.cedar_schema_grammar.specs.Reading.{schema_at, syntax_of, said}
use Rattle.cedar_schema_text.specs.declared.tokens.Token.{Token}
use Rattle.cedar_schema_text.specs.declared.read_error.SyntaxFault.{SyntaxFault}
use Rattle.cedar_schema_text.specs.declared.read_error.ReadError.{ReadError}
use Rattle.cedar_schema_text.specs.declared.read_error.ReadError.TheVariants.{Syntax, Memory}
use Rattle.cedar_schema_text.specs.Gives.{Fails}
use Rattle.cedar_schema_text.specs.View.{token_of}

same_syntax : (items : List Token) → syntax_of (map token_of items) ≡ schema_at (suc (length items)) (suc (length items)) (map token_of items)
unfolding syntax_of
same_syntax items = ap (λ n. schema_at (suc n) (suc n) (map token_of items)) (length-map items token_of)

-- a text whose tokens these are
pub said_by : (bytes : Text) (items : List Token) → tokens_of (chars bytes) ≡ Some (map token_of items)
    → said bytes ≡ schema_at (suc (length items)) (suc (length items)) (map token_of items)
unfolding said
said_by bytes items e = ap (λ o. o >>= syntax_of) e ∙ same_syntax items

-- a text without tokens
pub said_none : (bytes : Text) → tokens_of (chars bytes) ≡ None → said bytes ≡ None
unfolding said
said_none bytes e = ap (λ o. o >>= syntax_of) e

-- an error that isn't of memory
pub fails_none : {A : Type 0} (e : ReadError) (fault : SyntaxFault) (place : ℕ) (read : Option A) → e ≡ Syntax fault place → Fails e read → read ≡ None
fails_none (Syntax f p) fault place read is h = h
fails_none Memory fault place read is h = absurd (cc is)
