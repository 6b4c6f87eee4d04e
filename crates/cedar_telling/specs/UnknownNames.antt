-- Names of unknowns in contexts as they are written.
use Rattle.std.specs.Prelude.{Bool, false, ◌||◌, Option, Some, None, if◌then◌else◌}
use Rattle.cedar_language.specs.Tree.{MakeSet, MakeRecord, Call, Tree, Unknown, Apply, Trees, no_trees, a_tree}
use Rattle.cedar_language.specs.Uid.{Text, Name}
use Rattle.cedar_grammar.specs.Functions.{is_the_unknown}
use Rattle.cedar_telling.specs.Unknowns.{name_given}

-- whether the name that is given passes, or what else is said
abbrev pub passes_or : (Text → Bool) → Option Text → Bool → Bool
passes_or test (Some n) other = test n
passes_or test None other = other

-- whether a test holds of the name of some unknown of a restricted tree, or of one that a call of `unknown` names there
abbrev mutual
  pub stands_in : (Text → Bool) → Tree → Bool
  stands_in test (Unknown n ty) = test n
  stands_in test (Apply (Call f) ts) = if is_the_unknown f then passes_or test (name_given ts) (stands_in_some test ts) else stands_in_some test ts
  stands_in test (Apply MakeSet ts) = stands_in_some test ts
  stands_in test (Apply (MakeRecord ks) ts) = stands_in_some test ts
  stands_in test t = false

  pub stands_in_some : (Text → Bool) → Trees → Bool
  stands_in_some test no_trees = false
  stands_in_some test (a_tree t ts) = stands_in test t || stands_in_some test ts

abbrev pub stands_in_call : (Text → Bool) → Name → Trees → Bool
stands_in_call test f ts = if is_the_unknown f then passes_or test (name_given ts) (stands_in_some test ts) else stands_in_some test ts
