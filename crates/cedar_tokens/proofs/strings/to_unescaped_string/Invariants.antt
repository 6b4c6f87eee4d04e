use Rattle.std.proofs.Common.{◌≡◌, length}
use denote.Text.{Utf8}
use denote.Shadow.{shadow}
use Rattle.std.specs.Prelude.{string_bytes}
use Rattle.std.specs.Str.{chars}
use Rattle.cedar_grammar.specs.Escape.{between, parts_from, string_of}
use Rattle.cedar_tokens.specs.Rest.{IsRest}
use Rattle.cedar_tokens.proofs.Unescaping.{written, after_text}
use Rattle.cedar_tokens.proofs.strings.to_unescaped_string.Given as goal

abbrev pub invariant-parts : goal.invariant-parts
invariant-parts l = record {
  utf8 : shadow (Utf8 l.rest);
  rest : IsRest l.raw l.rest;
  same : string_of (chars l.raw) ≡ after_text (string_bytes l.text) (written (parts_from between (chars l.rest)));
}

abbrev pub decreases-parts : goal.decreases-parts
decreases-parts l = length l.rest
