-- The text is that of the characters read, and the rest; each text so written has them first.
use Rattle.std.proofs.Common.{length, string_bytes}
use denote.Text.{Utf8}
use denote.Shadow.{shadow}
use Rattle.cedar_literals.proofs.ReadingBack.{IsRead}
use Rattle.cedar_literals.proofs.unescaping.unescaped.Given as goal

abbrev pub invariant-characters : goal.invariant-characters
invariant-characters l = shadow (Utf8 l.rest) × IsRead l.escaped (string_bytes l.text) l.rest

abbrev pub decreases-characters : goal.decreases-characters
decreases-characters l = length l.rest
