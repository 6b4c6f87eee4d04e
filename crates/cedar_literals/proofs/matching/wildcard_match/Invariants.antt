use Rattle.std.proofs.Common.{◌↔◌, map}
use Rattle.std.specs.Str.{chars}
use Rattle.cedar_language.specs.Pattern.{Matches}
use Rattle.cedar_literals.specs.Patterns.{elem_of}
use Rattle.cedar_literals.specs.Matching.{CanMatch, HasCome, turns_left}
use Rattle.cedar_literals.proofs.matching.wildcard_match.Given as goal

abbrev pub invariant-look : goal.invariant-look
invariant-look l = HasCome l.search.start l.search.at × (Matches (map elem_of l.elems) (chars l.text) ↔ CanMatch l.search)

abbrev pub decreases-look : goal.decreases-look
decreases-look l = turns_left l.search
