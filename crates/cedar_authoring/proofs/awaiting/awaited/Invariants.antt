use Rattle.std.proofs.Common.{◌≡◌, map, take}
use Rattle.std.specs.List.{filter}
use Rattle.cedar_authoring.specs.Awaiting.{awaits}
use Rattle.cedar_authoring.proofs.awaiting.awaited.Given as goal

abbrev pub invariant-loop-name : goal.invariant-loop-name
invariant-loop-name l = map (λ n. n.now) l.awaited.items ≡ filter (awaits (map (λ n. n.now) l.standing)) (map (λ n. n.now) (take l.name-index l.untold))
