use Rattle.std.proofs.Common.{map, length}
use Rattle.cedar_grammar.specs.LooseReading.{each_of, begins_cond, cond_of}
use Rattle.cedar_cst.specs.View.{shown_cond}
use Rattle.cedar_loose.specs.SoFar.{Each}
use Rattle.cedar_loose.proofs.policies.conds.Given as goal

abbrev pub invariant-each : goal.invariant-each
invariant-each l = Each begins_cond (cond_of l.depth) (map shown_cond l.parts.items) l.cursor (each_of begins_cond (cond_of l.depth) l.initial.cursor)

abbrev pub decreases-each : goal.decreases-each
decreases-each l = length l.cursor
