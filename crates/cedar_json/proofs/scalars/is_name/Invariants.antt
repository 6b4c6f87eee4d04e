use Rattle.std.proofs.Common.{◌≡◌, length}
use denote.Text.{Utf8}
use denote.Shadow.{shadow}
use Rattle.cedar_json.proofs.Spellings.{all_free}
use Rattle.cedar_json.proofs.scalars.is_name.Given as goal

abbrev pub invariant-words : goal.invariant-words
invariant-words l = shadow (Utf8 l.rest) × (all_free l.rest ≡ all_free l.fn.text)

abbrev pub decreases-words : goal.decreases-words
decreases-words l = length l.rest
