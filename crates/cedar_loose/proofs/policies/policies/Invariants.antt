use Rattle.std.proofs.Common.{map, length}
use Rattle.cedar_grammar.specs.Steps.{is_more}
use Rattle.cedar_grammar.specs.LooseReading.{each_of, policy_of}
use Rattle.cedar_cst.specs.View.{shown_policy}
use Rattle.cedar_loose.specs.SoFar.{Each}
use Rattle.cedar_loose.proofs.policies.policies.Given as goal

abbrev pub invariant-each : goal.invariant-each
invariant-each l = Each is_more (policy_of l.depth) (map shown_policy l.parts.items) l.cursor (each_of is_more (policy_of l.depth) l.initial.cursor)

abbrev pub decreases-each : goal.decreases-each
decreases-each l = length l.cursor
