-- Calls of `unknown`, and the unknowns that they name.
use Rattle.std.specs.Prelude.{Bool, true, false, ◌||◌, None}
use Rattle.cedar_language.specs.Uid.{Name}
use Rattle.cedar_language.specs.Tree.{String, Operator, Call, Tree, Lit, Unknown, Apply, Trees, no_trees, a_tree}
use Rattle.cedar_grammar.specs.Functions.{is_the_unknown}

-- `unknown("n")` is the unknown named n; any other call of `unknown` stays a call
abbrev pub unknown_or : Bool → Name → Tree → Trees → Tree
unknown_or true f (Lit (String n)) no_trees = Unknown n None
unknown_or _ f t ts = Apply (Call f) (a_tree t ts)

abbrev pub named_call : Operator → Trees → Tree
named_call (Call f) (a_tree t ts) = unknown_or (is_the_unknown f) f t ts
named_call op ts = Apply op ts

abbrev mutual
  pub named : Tree → Tree
  named (Apply op ts) = named_call op (all_named ts)
  named t = t

  pub all_named : Trees → Trees
  all_named no_trees = no_trees
  all_named (a_tree t ts) = a_tree (named t) (all_named ts)

abbrev pub calls_unknown : Operator → Bool
calls_unknown (Call f) = is_the_unknown f
calls_unknown _ = false

-- whether a call of `unknown` stands in a restricted tree
abbrev mutual
  pub holds_call : Tree → Bool
  holds_call (Apply op ts) = calls_unknown op || hold_call ts
  holds_call _ = false

  pub hold_call : Trees → Bool
  hold_call no_trees = false
  hold_call (a_tree t ts) = holds_call t || hold_call ts
