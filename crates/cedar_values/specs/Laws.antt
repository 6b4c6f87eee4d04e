-- Laws of values and sets.
use Rattle.std.specs.Prelude.{◌≡◌, ◌↔◌, List, IsTrue}
use Rattle.std.specs.List.{Contains}
use Rattle.std.specs.List.Sorted.{IsStrictlySortedBy}
use Rattle.cedar_language.specs.Value.{Value}
use Rattle.cedar_language.specs.Order.{value_cmp}
use Rattle.cedar_values.specs.Kinds.{value_of}
use Rattle.cedar_values.specs.Orders.{same_kind}
use Rattle.cedar_values.specs.declared.values.ValueKind.{ValueKind}

-- two sets of the same members are one
abbrev pub SetsAreTheirMembers : Type 0
SetsAreTheirMembers =
    (s t : List Value) → IsStrictlySortedBy value_cmp s → IsStrictlySortedBy value_cmp t → ((v : Value) → Contains s v ↔ Contains t v) → s ≡ t

-- kinds are equal exactly where they make one value
abbrev pub KindsAreTheirValues : Type 0
KindsAreTheirValues = (k l : ValueKind) → IsTrue (same_kind k l) ↔ (value_of k ≡ value_of l)
