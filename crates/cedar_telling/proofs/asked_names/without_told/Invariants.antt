use Rattle.std.proofs.Common.{◌≡◌, not, is_some, map, take}
use Rattle.std.specs.FinMap as finite
use Rattle.std.specs.List.{filter}
use Rattle.cedar_telling.specs.Tells.{told_in}
use Rattle.cedar_telling.proofs.asked_names.without_told.Given as goal

abbrev pub invariant-loop-name : goal.invariant-loop-name
invariant-loop-name l = map (λ n. n.now) l.left.items ≡ filter (λ n. not (is_some (finite.get (told_in l.told.entries) n))) (map (λ n. n.now) (take l.name-index l.names))
