-- The slots of trees, and the entities bound to them.
use Rattle.std.specs.Prelude.{List, [], ◌∷◌, ◌++◌, Option, Some, None}
use Rattle.cedar_language.specs.Uid.{Uid}
use Rattle.cedar_language.specs.Tree.{Entity, SlotId, Tree, Lit, Var, Slot, Unknown, If, And, Or, Apply, Trees, no_trees, a_tree}

-- the entity that each slot of a policy is bound to
abbrev pub Slots : Type 0
Slots = SlotId → Option Uid

-- the slots that a tree holds
abbrev mutual
  pub tree_slots : Tree → List SlotId
  tree_slots (Lit l) = []
  tree_slots (Var v) = []
  tree_slots (Slot s) = s ∷ []
  tree_slots (Unknown n ty) = []
  tree_slots (If t u v) = tree_slots t ++ (tree_slots u ++ tree_slots v)
  tree_slots (And t u) = tree_slots t ++ tree_slots u
  tree_slots (Or t u) = tree_slots t ++ tree_slots u
  tree_slots (Apply op ts) = trees_slots ts

  pub trees_slots : Trees → List SlotId
  trees_slots no_trees = []
  trees_slots (a_tree t ts) = tree_slots t ++ trees_slots ts

abbrev pub bound_slot : SlotId → Option Uid → Tree
bound_slot s None = Slot s
bound_slot s (Some u) = Lit (Entity u)

-- a tree with the bound entities in the place of its slots
abbrev mutual
  pub bound_tree : Slots → Tree → Tree
  bound_tree b (Lit l) = Lit l
  bound_tree b (Var v) = Var v
  bound_tree b (Slot s) = bound_slot s (b s)
  bound_tree b (Unknown n ty) = Unknown n ty
  bound_tree b (If t u v) = If (bound_tree b t) (bound_tree b u) (bound_tree b v)
  bound_tree b (And t u) = And (bound_tree b t) (bound_tree b u)
  bound_tree b (Or t u) = Or (bound_tree b t) (bound_tree b u)
  bound_tree b (Apply op ts) = Apply op (bound_trees b ts)

  pub bound_trees : Slots → Trees → Trees
  bound_trees b no_trees = no_trees
  bound_trees b (a_tree t ts) = a_tree (bound_tree b t) (bound_trees b ts)
