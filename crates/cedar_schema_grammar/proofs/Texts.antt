-- What a text says is read of it, and is one.
use Rattle.std.proofs.Common.{◌≡◌, suc, length, Some, sym, ◌∙◌, arith}
use Rattle.std.specs.Str.{chars}
use Rattle.cedar_grammar.proofs.Parts.{bind_some}
use Rattle.cedar_schema_grammar.specs.Tokens.{tokens_of}
use Rattle.cedar_schema_grammar.specs.Reading.{syntax_of, said}
use Rattle.cedar_schema_grammar.specs.Laws.{TokensAreRead, TextsAreRead, OneSchema}
use Rattle.cedar_schema_grammar.proofs.Complete.{schema_complete}
use Rattle.cedar_schema_grammar.proofs.DeclarationsSound.{schema_sound}

pub tokens_are_read : TokensAreRead
unfolding syntax_of
tokens_are_read ts s = (schema_complete (suc (length ts)) (suc (length ts)) (omega arith) ts s (omega arith), schema_sound (suc (length ts)) (suc (length ts)) ts s)

pub texts_are_read : TextsAreRead
unfolding said
texts_are_read bytes s = (
  λ d. rw (d.1) ((tokens_are_read d.0 s).0 d.2),
  λ e. let b = bind_some (tokens_of (chars bytes)) syntax_of e in (b.0, b.1, (tokens_are_read b.0 s).1 b.2),
)

pub one_schema : OneSchema
one_schema bytes s t d e = let same : Some s ≡ Some t = sym ((texts_are_read bytes s).0 d) ∙ (texts_are_read bytes t).0 e in cc same
