-- Sets that are written as literals alone.
use Rattle.std.specs.Prelude.{Bool, true, false, ◌&&◌, List, [], ◌∷◌}
use Rattle.cedar_language.specs.Uid.{Uid}
use Rattle.cedar_language.specs.Tree.{Entity, Tree, Trees, Lit, no_trees, a_tree}
use Rattle.cedar_language.specs.Value.{Values, Plain, no_values, a_value}

abbrev pub is_literal : Tree → Bool
is_literal (Lit l) = true
is_literal t = false

-- each tree is a literal
abbrev pub are_literals : Trees → Bool
are_literals no_trees = true
are_literals (a_tree t ts) = is_literal t && are_literals ts

-- these values, and before them that of a tree that is a literal
abbrev pub and_literal : Tree → Values → Values
and_literal (Lit l) vs = a_value (Plain l) vs
and_literal t vs = vs

-- the values of those trees that are literals
abbrev pub literals_in : Trees → Values
literals_in no_trees = no_values
literals_in (a_tree t ts) = and_literal t (literals_in ts)

-- the uids of those trees that are entities
abbrev pub and_entity : Tree → List Uid → List Uid
and_entity (Lit (Entity u)) us = u ∷ us
and_entity t us = us

abbrev pub entities_in : Trees → List Uid
entities_in no_trees = []
entities_in (a_tree t ts) = and_entity t (entities_in ts)
