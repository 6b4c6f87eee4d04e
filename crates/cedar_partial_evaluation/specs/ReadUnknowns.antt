-- Trees as code has them call a function for an unknown: `unknown("n")` is the unknown named n.
use Rattle.std.specs.Prelude.{◌≡◌, Bool, true, false, ◌||◌, Option, None, [], ◌∷◌, codes}
use Rattle.cedar_language.specs.Uid.{Text, Name}
use Rattle.cedar_language.specs.Tree.{Literal, String, Operator, Call, Tree, Lit, Var, Slot, Unknown, If, And, Or, Apply, Trees, no_trees, a_tree, ValueType}
use Rattle.cedar_language.specs.Order.{same_name}
use Rattle.cedar_language.specs.Restricted.{is_restricted}

-- the function by which an unknown is named
abbrev pub unknown_function : Name
unknown_function = codes "unknown" ∷ []

-- of one string literal it is the unknown of this name, and any other call of it stays a call
abbrev pub unknown_or_call : Bool → Name → Tree → Trees → Tree
unknown_or_call true f (Lit (String n)) no_trees = Unknown n None
unknown_or_call _ f t ts = Apply (Call f) (a_tree t ts)

abbrev pub read_call : Operator → Trees → Tree
read_call (Call f) (a_tree t ts) = unknown_or_call (same_name f unknown_function) f t ts
read_call op ts = Apply op ts

abbrev mutual
  pub read_unknowns : Tree → Tree
  read_unknowns (Lit l) = Lit l
  read_unknowns (Var v) = Var v
  read_unknowns (Slot s) = Slot s
  read_unknowns (Unknown n ty) = Unknown n ty
  read_unknowns (If t y n) = If (read_unknowns t) (read_unknowns y) (read_unknowns n)
  read_unknowns (And l r) = And (read_unknowns l) (read_unknowns r)
  read_unknowns (Or l r) = Or (read_unknowns l) (read_unknowns r)
  read_unknowns (Apply op ts) = read_call op (all_read ts)

  pub all_read : Trees → Trees
  all_read no_trees = no_trees
  all_read (a_tree t ts) = a_tree (read_unknowns t) (all_read ts)

-- whether that function is called
abbrev pub is_unknown_call : Operator → Bool
is_unknown_call (Call f) = same_name f unknown_function
is_unknown_call op = false

abbrev mutual
  pub calls_unknown : Tree → Bool
  calls_unknown (If t y n) = calls_unknown t || (calls_unknown y || calls_unknown n)
  calls_unknown (And l r) = calls_unknown l || calls_unknown r
  calls_unknown (Or l r) = calls_unknown l || calls_unknown r
  calls_unknown (Apply op ts) = is_unknown_call op || some_calls_unknown ts
  calls_unknown t = false

  pub some_calls_unknown : Trees → Bool
  some_calls_unknown no_trees = false
  some_calls_unknown (a_tree t ts) = calls_unknown t || some_calls_unknown ts

-- a walk that reads such calls inside of sets, records and calls
pub record ReadsData (read : Tree → Tree) (read_all : Trees → Trees) : Type 0 where
  pub literal : (l : Literal) → read (Lit l) ≡ Lit l
  pub unknown : (n : Text) (ty : Option ValueType) → read (Unknown n ty) ≡ Unknown n ty
  pub applied : (op : Operator) (ts : Trees) → read (Apply op ts) ≡ read_call op (read_all ts)
  pub nothing : read_all no_trees ≡ no_trees
  pub more : (t : Tree) (ts : Trees) → read_all (a_tree t ts) ≡ a_tree (read t) (read_all ts)

pub record UnknownsAreRead : Type 0 where
  -- a tree that doesn't call the function is itself
  pub without : (t : Tree) → calls_unknown t ≡ false → read_unknowns t ≡ t
  -- what was read is read already
  pub once : (t : Tree) → read_unknowns (read_unknowns t) ≡ read_unknowns t
  -- data are read by any walk that looks into data alone
  pub data_alone : (read : Tree → Tree) (read_all : Trees → Trees) → ReadsData read read_all → (t : Tree) → is_restricted t ≡ true → read t ≡ read_unknowns t
