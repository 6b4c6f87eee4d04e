use Rattle.std.proofs.Common.{◌≡◌, map, drop}
use Rattle.cedar_refusals.specs.Naming.{stands}
use Rattle.cedar_refusals.proofs.naming.stands.Given as goal

abbrev pub invariant-loop-other : goal.invariant-loop-other
invariant-loop-other l = stands (map (λ n. n.now) l.standing) l.name ≡ stands (map (λ n. n.now) (drop l.other-index l.standing)) l.name
