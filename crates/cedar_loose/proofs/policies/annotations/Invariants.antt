use Rattle.std.proofs.Common.{map, length}
use Rattle.cedar_grammar.specs.Steps.{begins_annotation}
use Rattle.cedar_grammar.specs.LooseReading.{each_of, annotation_of}
use Rattle.cedar_cst.specs.View.{shown_annotation}
use Rattle.cedar_loose.specs.SoFar.{Each}
use Rattle.cedar_loose.proofs.policies.annotations.Given as goal

abbrev pub invariant-each : goal.invariant-each
invariant-each l = Each begins_annotation annotation_of (map shown_annotation l.parts.items) l.cursor (each_of begins_annotation annotation_of l.initial.cursor)

abbrev pub decreases-each : goal.decreases-each
decreases-each l = length l.cursor
