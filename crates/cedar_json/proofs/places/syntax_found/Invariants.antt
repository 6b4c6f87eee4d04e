use Rattle.std.proofs.Common.{length}
use Rattle.cedar_json.proofs.places.syntax_found.Given as goal

abbrev pub decreases-tokens : goal.decreases-tokens
decreases-tokens l = length l.reader
