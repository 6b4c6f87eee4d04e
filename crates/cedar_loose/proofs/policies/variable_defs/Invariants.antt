use Rattle.std.proofs.Common.{map, length}
use Rattle.cedar_grammar.specs.Token as token
use Rattle.cedar_grammar.specs.LooseReading.{items_of, variable_def_of}
use Rattle.cedar_cst.specs.View.{shown_variable_def}
use Rattle.cedar_loose.proofs.Loops.{Items}
use Rattle.cedar_loose.proofs.policies.variable_defs.Given as goal

abbrev pub invariant-items : goal.invariant-items
invariant-items l = Items token.RightParen (variable_def_of l.depth) (map shown_variable_def l.items.items) l.cursor (items_of token.RightParen (variable_def_of l.depth) l.initial.cursor)

abbrev pub decreases-items : goal.decreases-items
decreases-items l = length l.cursor
