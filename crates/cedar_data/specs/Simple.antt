-- Values that are literals or records of such values, and what writes them.
use Rattle.std.specs.Prelude.{Bool, true, false, ◌&&◌, List, map}
use Rattle.std.specs.Rc.{rc_str_bytes}
use Rattle.std.specs.declared.alloc.Global.{Global}
use Rattle.std.specs.declared.rc.RcStr.{RcStr}
use Rattle.cedar_language.specs.Constructing.{construction}
use Rattle.cedar_language.specs.Tree.{MakeSet, MakeRecord, Tree, Lit, Apply, Trees, no_trees, a_tree}
use Rattle.cedar_language.specs.Value.{Value, Plain, SetOf, RecordOf, ExtensionOf, Values, no_values, a_value}
use Rattle.cedar_grammar.specs.Build.{Keyed}
use Rattle.cedar_values.specs.Kinds.{keys_of, values_of}

abbrev pub Attributes : Type 0
Attributes = List (RcStr Global × Value)

-- what writes a value: a set by its members in rising order, a record by its keys, and an extension value by the call that makes it
abbrev mutual
  pub tree_of : Value → Tree
  tree_of (Plain l) = Lit l
  tree_of (SetOf vs) = Apply MakeSet (trees_of vs)
  tree_of (RecordOf ks vs) = Apply (MakeRecord ks) (trees_of vs)
  tree_of (ExtensionOf e) = construction e

  pub trees_of : Values → Trees
  trees_of no_values = no_trees
  trees_of (a_value v vs) = a_tree (tree_of v) (trees_of vs)

-- literals, and records of them, alone
abbrev mutual
  pub is_simple : Tree → Bool
  is_simple (Lit l) = true
  is_simple (Apply (MakeRecord ks) ts) = are_simple ts
  is_simple _ = false

  pub are_simple : Trees → Bool
  are_simple no_trees = true
  are_simple (a_tree t ts) = is_simple t && are_simple ts

-- the record of these attributes
abbrev pub record_value : Attributes → Value
record_value es = RecordOf (keys_of es) (values_of es)

-- what writes each attribute, beside its key
abbrev pub written_entries : Attributes → List (Keyed Tree)
written_entries es = map (λ e. (rc_str_bytes e.0, tree_of e.1)) es
