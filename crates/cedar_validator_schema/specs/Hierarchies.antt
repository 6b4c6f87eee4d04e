-- Keys, and those to which edges lead from each.
use Rattle.std.specs.Prelude.{◌≡◌, Bool, true, List, []}
use Rattle.std.specs.List.{list_any}
use Rattle.std.specs.Option.{option_map_or}
use Rattle.std.specs.declared.cmp.Ordering.{Ordering}
use Rattle.std.specs.BTreeMap.{get}
use Rattle.cedar_validator_schema.specs.declared.hierarchies.Hierarchy.{Hierarchy}

-- keys that are equal are one, and copies are the key
pub record AreExact {K : Type 0} (eq : K → K → Bool) (IsClone : K → K → Type 0) : Type 0 where
  pub same : (x y : K) → eq x y ≡ true → x ≡ y
  pub copies : (x y : K) → IsClone x y → y ≡ x

-- where edges lead from a key
abbrev pub targets_at : {K : Type 0} → (K → K → Ordering) → Hierarchy K → K → List K
targets_at cmp h x = option_map_or (λ row. row.items) (get cmp h.targets x) []

-- an edge leads from the first to the second
abbrev pub leads : {K : Type 0} → (K → K → Bool) → (K → K → Ordering) → Hierarchy K → K → K → Bool
leads eq cmp h x y = list_any (eq y) (targets_at cmp h x)

abbrev pub Leads : {K : Type 0} → (K → K → Bool) → (K → K → Ordering) → Hierarchy K → K → K → Type 0
Leads eq cmp h x y = leads eq cmp h x y ≡ true
