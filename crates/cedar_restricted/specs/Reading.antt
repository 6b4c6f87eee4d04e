-- The value that a tree of literals, sets and records alone is.
use Rattle.std.specs.Prelude.{◌≡◌, ⊤, Option, Some, None, option_map, Result, Ok, Err}
use Rattle.cedar_language.specs.Tree.{MakeSet, MakeRecord, Tree, Lit, Apply, Trees, no_trees, a_tree}
use Rattle.cedar_language.specs.Value.{Value, Plain, RecordOf, Values, no_values, a_value}
use Rattle.cedar_language.specs.Order.{set_of}
use Rattle.cedar_restricted.specs.declared.from_expr.NotValue.{NotValue}
use Rattle.cedar_restricted.specs.declared.from_expr.NotValue.TheVariants as not_value

abbrev pub both : Option Value → Option Values → Option Values
both (Some v) (Some vs) = Some (a_value v vs)
both v vs = None

abbrev mutual
  pub value_in : Tree → Option Value
  value_in (Lit l) = Some (Plain l)
  value_in (Apply MakeSet ts) = option_map set_of (values_in ts)
  value_in (Apply (MakeRecord ks) ts) = option_map (RecordOf ks) (values_in ts)
  value_in _ = None

  pub values_in : Trees → Option Values
  values_in no_trees = Some no_values
  values_in (a_tree t ts) = both (value_in t) (values_in ts)

-- what was read of a tree, or that it isn't of literals, sets and records alone; want of memory says nothing
abbrev pub IsRead : {V A : Type 0} → (V → A) → Option A → Result V NotValue → Type 0
IsRead view meant (Ok v) = meant ≡ Some (view v)
IsRead view meant (Err (not_value.NotValue loc)) = meant ≡ None
IsRead view meant (Err (not_value.Memory e)) = ⊤
