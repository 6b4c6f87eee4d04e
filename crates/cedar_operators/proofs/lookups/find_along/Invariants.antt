use Rattle.std.proofs.Common.{◌≡◌, map, drop}
use Rattle.std.specs.Rc.{rc_str_bytes}
use Rattle.cedar_language.specs.Facts.{Facts}
use Rattle.cedar_language.specs.Value.{Outcome}
use Rattle.cedar_language.specs.Operators.{path_from}
use Rattle.cedar_operators.specs.Store.{HasFacts}
use Rattle.cedar_operators.specs.Lookups.{Shows}
use Rattle.cedar_operators.proofs.lookups.find_along.Given as goal

abbrev pub invariant-loop-attr : goal.invariant-loop-attr
invariant-loop-attr l = (facts : Facts) (meant : Outcome) → HasFacts l.entities facts → Shows (λ o. path_from facts (map rc_str_bytes l.attrs) o ≡ meant) l.fn.before →
    Shows (λ o. path_from facts (map rc_str_bytes (drop l.attr-index l.attrs)) o ≡ meant) l.lookup
