-- The sets bind alike at each id so far, so the rest decides.
use Rattle.std.proofs.Common.{◌≡◌}
use Rattle.std.specs.List.{list_all}
use Rattle.std.specs.Map.{keys_of}
use Rattle.cedar_policy_set.specs.Bounds.{seen}
use Rattle.cedar_policy_set.specs.SameSets.{alike_at}
use Rattle.cedar_policy_set.proofs.comparing.bind_alike.Given as goal

abbrev pub invariant-loop-bound : goal.invariant-loop-bound
invariant-loop-bound l = list_all (alike_at l.mine l.theirs) (keys_of (seen l.bound-iterator)) ≡ list_all (alike_at l.mine l.theirs) (keys_of l.ids)
