use Rattle.std.proofs.Common.{length}
use denote.Text.{Utf8}
use denote.Shadow.{shadow}
use Rattle.std.specs.Str.{chars}
use Rattle.cedar_tokens.specs.Rest.{IsRest}
use Rattle.cedar_tokens.specs.Marks.{StartsNoComment}
use Rattle.cedar_tokens.proofs.Unread.{Passed}
use Rattle.cedar_tokens.proofs.reader.check.Given as goal

abbrev pub invariant-tokens : goal.invariant-tokens
invariant-tokens l = record {
  utf8 : shadow (Utf8 l.rest);
  rest : IsRest l.text l.rest;
  visible : StartsNoComment (chars l.rest);
  passed : Passed l.text l.rest;
}

abbrev pub decreases-tokens : goal.decreases-tokens
decreases-tokens l = length l.rest
