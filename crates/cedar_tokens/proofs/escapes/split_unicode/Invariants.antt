use Rattle.std.proofs.Common.{◌≡◌, ◌^◌, ◌<◌, ◌≤◌, length}
use denote.Text.{Utf8}
use denote.Shadow.{shadow}
use Rattle.std.specs.Str.{chars}
use Rattle.cedar_grammar.specs.Escape.{unicode, unicode_digits, parts_from}
use Rattle.cedar_tokens.specs.Rest.{IsRest}
use Rattle.cedar_tokens.proofs.escapes.split_unicode.Given as goal

abbrev pub invariant-digits : goal.invariant-digits
invariant-digits l = record {
  utf8 : shadow (Utf8 l.rest);
  rest : IsRest l.raw l.rest;
  few : l.count ≤ 6;
  small : l.code < 16 ^ l.count;
  same : parts_from unicode (chars l.raw) ≡ parts_from (unicode_digits l.count l.code) (chars l.rest);
}

abbrev pub decreases-digits : goal.decreases-digits
decreases-digits l = length l.rest
