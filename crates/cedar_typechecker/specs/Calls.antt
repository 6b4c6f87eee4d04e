-- Texts that are written as arguments.
use Rattle.std.specs.Prelude.{Option, Some, None}
use Rattle.cedar_language.specs.Uid.{Text}
use Rattle.cedar_language.specs.Tree.{String, Tree, Lit, Trees, no_trees, a_tree}

-- the text of a string that is written
abbrev pub text_in : Tree → Option Text
text_in (Lit (String s)) = Some s
text_in t = None

-- the text of the only argument
abbrev pub sole_text : Trees → Option Text
sole_text (a_tree t no_trees) = text_in t
sole_text ts = None
