use Rattle.std.proofs.Common.{◌-◌, length}
use denote.Text.{Utf8}
use denote.Shadow.{shadow}
use Rattle.std.specs.Prelude.{map, All}
use Rattle.std.specs.Str.{chars}
use Rattle.cedar_tokens.specs.View.{token_of}
use Rattle.cedar_tokens.specs.Rest.{IsRest}
use Rattle.cedar_tokens.specs.Marks.{StartsNoComment}
use Rattle.cedar_tokens.specs.Spelling.{IsSpelledToken}
use Rattle.cedar_tokens.specs.Places.{ArePlaced}
use Rattle.cedar_tokens.proofs.Reading.{Left}
use Rattle.cedar_tokens.proofs.tokenizer.tokenize.Given as goal

abbrev pub invariant-tokens : goal.invariant-tokens
invariant-tokens l = record {
  utf8 : shadow (Utf8 l.rest);
  rest : IsRest l.text l.rest;
  visible : StartsNoComment (chars l.rest);
  left : Left l.text l.rest (map token_of l.tokens.items);
  places : ArePlaced l.text 0 l.tokens.items (length l.text - length l.rest);
  spelled : All IsSpelledToken l.tokens.items;
}

abbrev pub decreases-tokens : goal.decreases-tokens
decreases-tokens l = length l.rest
