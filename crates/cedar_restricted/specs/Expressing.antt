-- How values are written as expressions.
use Rattle.std.specs.Prelude.{◌≡◌, ⊤, Bool, true, false, ◌&&◌}
use Rattle.cedar_language.specs.Constructing.{construction}
use Rattle.cedar_language.specs.Tree.{MakeSet, MakeRecord, Call, Tree, Lit, Apply, Trees, no_trees, a_tree}
use Rattle.cedar_language.specs.Value.{Value, Plain, SetOf, RecordOf, ExtensionOf, Values, no_values, a_value}

-- literals, sets, records and calls alone
abbrev mutual
  pub is_ground : Tree → Bool
  is_ground (Lit l) = true
  is_ground (Apply MakeSet ts) = are_ground ts
  is_ground (Apply (MakeRecord ks) ts) = are_ground ts
  is_ground (Apply (Call f) ts) = are_ground ts
  is_ground _ = false

  pub are_ground : Trees → Bool
  are_ground no_trees = true
  are_ground (a_tree t ts) = is_ground t && are_ground ts

-- the tree writes the value: a set by its members in rising order, a record by its keys, and an extension value by the call of
-- the constructor that gives it again
abbrev mutual
  pub Expresses : Value → Tree → Type 0
  Expresses (Plain l) t = t ≡ Lit l
  Expresses (SetOf vs) t = (ts : Trees) × (t ≡ Apply MakeSet ts) × ExpressAll vs ts
  Expresses (RecordOf ks vs) t = (ts : Trees) × (t ≡ Apply (MakeRecord ks) ts) × ExpressAll vs ts
  Expresses (ExtensionOf e) t = t ≡ construction e

  -- so many trees, each of which writes the value at its place
  pub ExpressAll : Values → Trees → Type 0
  ExpressAll no_values no_trees = ⊤
  ExpressAll (a_value v vs) (a_tree t ts) = Expresses v t × ExpressAll vs ts
  ExpressAll vs ts = ⊥
