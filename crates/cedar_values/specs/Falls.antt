-- Each value inside a value weighs less.
use Rattle.std.specs.Prelude.{◌+◌, ◌*◌, ◌≤◌, List, [], ◌∷◌, map}
use Rattle.std.proofs.Common.{arith}
use Rattle.std.specs.BTreeMap.{BTreeMap, values}
use Rattle.std.specs.declared.alloc.Global.{Global}
use Rattle.std.specs.declared.rc.Rc.{Rc}
use Rattle.std.specs.declared.rc.RcStr.{RcStr}
use denote.Param.Weighed.{most}
use Rattle.cedar_language.specs.Value.{Value}
use Rattle.cedar_language.specs.Order.{all_of}
use Rattle.cedar_values.specs.Kinds.{value_of, values_of}
use Rattle.cedar_values.specs.Sizes.{weigh, weigh_all}
use Rattle.cedar_values.specs.declared.values.ValueKind.{ValueKind}
use Rattle.cedar_values.specs.declared.values.ValueKind.TheVariants as kind
use Rattle.cedar_values.specs.declared.values.Set.TheDeep.{deep-ValueKind, size-Value}

pub items_fall : (vs : List Value) → most (λ v. weigh v + 1) vs ≤ weigh_all (all_of vs)
items_fall [] = omega arith
items_fall (v ∷ vs) = omega (arith, items_fall vs)

fields_fall : (es : List (RcStr Global × Value)) → most (λ v. weigh v + 1) (map (λ e. e.1) es) ≤ weigh_all (values_of es)
fields_fall [] = omega arith
fields_fall (e ∷ es) = omega (arith, fields_fall es)

pub kind_falls : (k : ValueKind) → deep-ValueKind k ≤ weigh (value_of k)
kind_falls (kind.Lit l) = omega arith
kind_falls (kind.Set s) = omega arith
kind_falls (kind.Record m) = omega (arith, fields_fall m.value.entries)
kind_falls (kind.ExtensionValue e) = omega arith

sizes_fall : (es : List (RcStr Global × Value)) → most size-Value (map (λ e. e.1) es) ≤ 2 * most (λ v. weigh v + 1) (map (λ e. e.1) es)
sizes_fall [] = omega arith
sizes_fall (e ∷ es) = omega (arith, sizes_fall es)

-- the same by the sizes that a recursion goes by
pub record_falls : (m : Rc (BTreeMap (RcStr Global) Value) Global) → most size-Value (values m.value) ≤ 2 * deep-ValueKind (kind.Record m)
record_falls m = omega (arith, sizes_fall m.value.entries)
