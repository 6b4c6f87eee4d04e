-- The text is the identifiers read, each with `::` after it, and the rest; each name so written begins with them.
use Rattle.std.proofs.Common.{length}
use denote.Text.{Utf8}
use denote.Shadow.{shadow}
use Rattle.cedar_names.proofs.Splitting.{IsRead}
use Rattle.cedar_names.proofs.reading.InternalNameFromNormalizedStr.from_normalized_str.Given as goal

abbrev pub invariant-loop-component : goal.invariant-loop-component
invariant-loop-component l = shadow (Utf8 l.rest) × IsRead l.text l.path.items l.rest

abbrev pub decreases-loop-component : goal.decreases-loop-component
decreases-loop-component l = length l.rest
