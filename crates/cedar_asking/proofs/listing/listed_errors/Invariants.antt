use Rattle.std.proofs.Common.{◌≡◌, true, map, take}
use Rattle.cedar_evaluator.specs.Holding.{error_seen}
use Rattle.cedar_replies.specs.Erring.{have_kinds}
use Rattle.cedar_asking.specs.Erring.{with_failure}
use Rattle.cedar_asking.proofs.listing.listed_errors.Given as goal

-- the errors so far, each by the name of its kind
abbrev pub invariant-loop-error : goal.invariant-loop-error
invariant-loop-error l = (have_kinds l.listed.items ≡ true) × (map with_failure l.listed.items ≡ map error_seen (take l.error-index l.errors))
