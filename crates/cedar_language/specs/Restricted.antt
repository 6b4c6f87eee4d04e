-- Trees that are data alone, and those of which a record is projected.
use Rattle.std.specs.Prelude.{Bool, true, false, ◌&&◌}
use Rattle.cedar_language.specs.Tree.{MakeSet, MakeRecord, Call, Tree, Lit, Var, Unknown, Apply, Trees, no_trees, a_tree}

-- literals, unknown names, sets, records and calls alone
abbrev mutual
  pub is_restricted : Tree → Bool
  is_restricted (Lit l) = true
  is_restricted (Unknown n ty) = true
  is_restricted (Apply MakeSet ts) = are_restricted ts
  is_restricted (Apply (MakeRecord ks) ts) = are_restricted ts
  is_restricted (Apply (Call f) ts) = are_restricted ts
  is_restricted _ = false

  pub are_restricted : Trees → Bool
  are_restricted no_trees = true
  are_restricted (a_tree t ts) = is_restricted t && are_restricted ts

-- literals, unknowns, variables, sets and records alone: a record of these is projected
abbrev mutual
  pub is_projectable : Tree → Bool
  is_projectable (Lit l) = true
  is_projectable (Unknown n ty) = true
  is_projectable (Var v) = true
  is_projectable (Apply MakeSet ts) = are_projectable ts
  is_projectable (Apply (MakeRecord ks) ts) = are_projectable ts
  is_projectable _ = false

  pub are_projectable : Trees → Bool
  are_projectable no_trees = true
  are_projectable (a_tree t ts) = is_projectable t && are_projectable ts
