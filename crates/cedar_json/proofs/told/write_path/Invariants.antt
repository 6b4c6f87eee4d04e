use Rattle.std.specs.Prelude.{length, string_bytes}
use Rattle.cedar_json.proofs.Paths.{IsOnPath}
use Rattle.cedar_json.proofs.told.write_path.Given as goal

abbrev pub invariant-words : goal.invariant-words
invariant-words l = IsOnPath l.fn.tokens.left l.tokens.left (string_bytes l.fn.out) (string_bytes l.out)

abbrev pub decreases-words : goal.decreases-words
decreases-words l = length l.tokens.left
