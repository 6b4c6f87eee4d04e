-- Without an entity a constraint stays as it was.
use Rattle.std.proofs.Common.{◌≡◌, refl, None}
use Rattle.cedar_grammar.specs.Policy.{Constraint, anything, equals, within, of_type, of_type_within, bound_constraint}

pub unbound_stays : (c : Constraint) → bound_constraint None c ≡ c
unbound_stays anything = refl
unbound_stays (equals e) = refl
unbound_stays (within e) = refl
unbound_stays (of_type p) = refl
unbound_stays (of_type_within p e) = refl
