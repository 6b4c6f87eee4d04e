-- How many parts there are.
use Rattle.std.specs.Prelude.{ℕ, suc}
use Rattle.cedar_language.specs.Tree.{Trees, no_trees, a_tree}

abbrev pub part_count : Trees → ℕ
part_count no_trees = 0
part_count (a_tree t ts) = suc (part_count ts)
