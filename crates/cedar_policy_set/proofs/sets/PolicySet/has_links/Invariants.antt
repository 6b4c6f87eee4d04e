-- No link was met yet, so the rest decides.
use Rattle.std.proofs.Common.{◌≡◌}
use Rattle.cedar_policy_set.specs.Entries.{has_links}
use Rattle.cedar_policy_set.specs.Bounds.{seen}
use Rattle.cedar_policy_set.proofs.sets.PolicySet.has_links.Given as goal

abbrev pub invariant-loop-bound : goal.invariant-loop-bound
invariant-loop-bound l = has_links (seen l.bound-iterator) l.id ≡ has_links l.self l.id
