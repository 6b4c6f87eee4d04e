-- What was found of the keys that each key reaches.
use Rattle.std.specs.Prelude.{Bool, List, ◌&&◌}
use Rattle.std.specs.List.{list_any}
use Rattle.std.specs.Set.{is_member}
use Rattle.cedar_closure.specs.declared.closing.Reached.{Reached}

-- whether q is among the keys that were found from a
abbrev pub finds : {K : Type 0} → (K → K → Bool) → List (Reached K) → K → K → Bool
finds eq all a q = list_any (λ r. eq a r.from && is_member eq r.keys.items q) all
