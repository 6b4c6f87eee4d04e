use Rattle.std.proofs.Common.{◌≡◌, length}
use denote.Text.{Utf8}
use denote.Shadow.{shadow}
use Rattle.std.specs.Prelude.{map}
use Rattle.std.specs.Str.{chars}
use Rattle.cedar_grammar.specs.Escape.{between, parts_from, parts_of}
use Rattle.cedar_tokens.specs.Parts.{part_view}
use Rattle.cedar_tokens.specs.Rest.{IsRest}
use Rattle.cedar_tokens.proofs.Unescaping.{after_parts}
use Rattle.cedar_tokens.proofs.strings.unescape_parts.Given as goal

abbrev pub invariant-parts : goal.invariant-parts
invariant-parts l = record {
  utf8 : shadow (Utf8 l.rest);
  rest : IsRest l.raw l.rest;
  same : parts_of (chars l.raw) ≡ after_parts (map part_view l.parts.items) (parts_from between (chars l.rest));
}

abbrev pub decreases-parts : goal.decreases-parts
decreases-parts l = length l.rest
