-- Unknowns that have no name of their own.
use Rattle.std.specs.Prelude.{Bool, true, false, ◌||◌, Option, Some, None, if◌then◌else◌}
use Rattle.cedar_language.specs.Tree.{MakeSet, MakeRecord, Call, Tree, Unknown, Apply, Trees, no_trees, a_tree}
use Rattle.cedar_language.specs.Uid.{Text, Name}
use Rattle.cedar_world.specs.Bodies.{string_of, is_one_of}
use Rattle.cedar_grammar.specs.Functions.{is_the_unknown}
use Rattle.cedar_world.specs.Values.{variable_names}

-- the name that arguments of `unknown` give
abbrev pub name_given : Trees → Option Text
name_given (a_tree t no_trees) = string_of t
name_given ts = None

-- none, or that of a variable
abbrev pub is_no_name : Option Text → Bool
is_no_name (Some n) = is_one_of variable_names n
is_no_name None = true

-- an unknown of a restricted tree, or a call of `unknown` there, has no name of its own
abbrev mutual
  pub badly_named : Tree → Bool
  badly_named (Unknown n ty) = is_one_of variable_names n
  badly_named (Apply (Call f) ts) = if is_the_unknown f then is_no_name (name_given ts) else some_badly_named ts
  badly_named (Apply MakeSet ts) = some_badly_named ts
  badly_named (Apply (MakeRecord ks) ts) = some_badly_named ts
  badly_named t = false

  pub some_badly_named : Trees → Bool
  some_badly_named no_trees = false
  some_badly_named (a_tree t ts) = badly_named t || some_badly_named ts

abbrev pub call_badly_named : Name → Trees → Bool
call_badly_named f ts = if is_the_unknown f then is_no_name (name_given ts) else some_badly_named ts
