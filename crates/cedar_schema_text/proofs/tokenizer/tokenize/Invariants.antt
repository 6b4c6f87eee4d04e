use Rattle.std.proofs.Common.{length}
use denote.Text.{Utf8}
use denote.Shadow.{shadow}
use Rattle.std.specs.Prelude.{map, All}
use Rattle.cedar_tokens.specs.Rest.{IsRest}
use Rattle.cedar_schema_text.specs.View.{token_of}
use Rattle.cedar_schema_text.specs.Places.{StandsIn}
use Rattle.cedar_schema_text.proofs.Reading.{Left}
use Rattle.cedar_schema_text.proofs.tokenizer.tokenize.Given as goal

abbrev pub invariant-tokens : goal.invariant-tokens
invariant-tokens l = record {
  utf8 : shadow (Utf8 l.rest);
  rest : IsRest l.text l.rest;
  left : Left l.text l.rest (map token_of l.tokens.items);
  placed : All (StandsIn l.text) l.tokens.items;
}

abbrev pub decreases-tokens : goal.decreases-tokens
decreases-tokens l = length l.rest
