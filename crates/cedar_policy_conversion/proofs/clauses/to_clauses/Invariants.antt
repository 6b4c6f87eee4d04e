use Rattle.std.proofs.Common.{map, take}
use Rattle.std.specs.Prelude.{IfErr}
use Rattle.std.specs.Option.{option_map}
use Rattle.cedar_cst.specs.View.{shown_cond}
use Rattle.cedar_trees.specs.Bare.{bare}
use Rattle.cedar_faults.specs.Converts.{Finds}
use Rattle.cedar_faults.specs.Telling.{TellsOnly}
use Rattle.cedar_policy_conversion.specs.Clauses.{clauses_of}
use Rattle.cedar_policy_conversion.specs.ClausesShow.{clauses_show}
use Rattle.cedar_policy_conversion.proofs.clauses.to_clauses.Given as goal

-- what the clauses so far ask; and what was told, the clauses show
abbrev pub invariant-loop-node : goal.invariant-loop-node
invariant-loop-node l = record {
  clauses : Finds (option_map bare) l.clauses (clauses_of l.styles (map shown_cond (take l.node-index l.nodes.items)));
  shown : IfErr l.clauses (λ e. TellsOnly e (clauses_show l.styles (map shown_cond l.nodes.items)));
}
