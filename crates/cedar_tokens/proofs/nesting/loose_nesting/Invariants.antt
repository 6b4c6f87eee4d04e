-- The count and the places of the rest make the places of the text, of which there are no more than bytes.
use Rattle.std.proofs.Common.{◌≡◌, ◌+◌, ◌≤◌, length, false}
use denote.Text.{Utf8}
use denote.Shadow.{shadow}
use Rattle.std.specs.Str.{chars}
use Rattle.cedar_grammar.specs.Nesting.{places}
use Rattle.cedar_tokens.proofs.nesting.loose_nesting.Given as goal

abbrev pub invariant-places : goal.invariant-places
invariant-places l = record {
  utf8 : shadow (Utf8 l.rest);
  room : l.nesting + length l.rest ≤ 1 + length l.text;
  counted : l.nesting + places l.after_i (chars l.rest) ≡ 1 + places false (chars l.text);
}

abbrev pub decreases-places : goal.decreases-places
decreases-places l = length l.rest
